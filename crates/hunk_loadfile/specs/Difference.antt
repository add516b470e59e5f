-- Where two load files first differ in what they mean.
use Rattle.std.specs.Prelude.{◌≡◌, ℕ, ◌+◌, ◌*◌, ◌≤◌, ◌==◌, ◌&&◌, not, Bool, true, false, if◌then◌else◌, List, ◌∷◌, length, max, Option, Some, None}
use Rattle.std.specs.List.{position_from, range_with_len}
use Rattle.std.specs.Option.{option_eq, option_map, option_or}
use Rattle.hunk_base.specs.Sites.{target_at}
use Rattle.hunk_words.specs.declared.kinds.HunkKind.{HunkKind}
use Rattle.hunk_words.specs.declared.kinds.HunkKind.TheVariants.{Code, Data, Bss}
use Rattle.hunk_words.specs.declared.kinds.Memory.{Memory}
use Rattle.hunk_words.specs.declared.kinds.Memory.TheVariants.{Any, Chip, Fast}
use Rattle.hunk_loadfile.specs.LoadHunk.{FileHunk}
use Rattle.hunk_loadfile.specs.Patching.{byte_or_zero}
use Rattle.hunk_loadfile.specs.Rules.{most_size}
use Rattle.hunk_loadfile.specs.declared.difference.Difference.{Difference}
use Rattle.hunk_loadfile.specs.declared.difference.Difference.TheVariants as difference_is

-- ---- what two hunks have in common

abbrev pub is_same_kind : HunkKind → HunkKind → Bool
is_same_kind Code Code = true
is_same_kind Data Data = true
is_same_kind Bss Bss = true
is_same_kind _ _ = false

abbrev pub is_same_memory : Memory → Memory → Bool
is_same_memory Any Any = true
is_same_memory Chip Chip = true
is_same_memory Fast Fast = true
is_same_memory _ _ = false

-- the byte at an offset, zeros after the content
abbrev pub byte_of : FileHunk → ℕ → ℕ
byte_of hunk offset = byte_or_zero hunk.content offset

-- the hunk whose base is added at an offset, if there is a site
abbrev pub target_of : FileHunk → ℕ → Option ℕ
target_of hunk offset = target_at hunk.sites.entries offset

abbrev pub has_same_byte : List ℕ → List ℕ → ℕ → Bool
has_same_byte first second offset = byte_or_zero first offset == byte_or_zero second offset

abbrev pub has_same_target : List (ℕ × ℕ) → List (ℕ × ℕ) → ℕ → Bool
has_same_target first second offset = option_eq ◌==◌ (target_at first offset) (target_at second offset)

-- ---- where two hunks differ

-- the lowest of `count` numbers, from `start` on, that passes
abbrev pub lowest : (ℕ → Bool) → ℕ → ℕ → Option ℕ
lowest passes start count = position_from passes start (range_with_len start count)

-- the lowest offset with another byte or another target
abbrev pub first_offset : FileHunk → FileHunk → Option ℕ
first_offset first second =
    lowest (λ offset. not (has_same_byte first.content second.content offset && has_same_target first.sites.entries second.sites.entries offset)) 0 (4 * first.size)

-- what differs at an offset, the byte before the target
abbrev pub difference_at : ℕ → FileHunk → FileHunk → ℕ → Difference
difference_at number first second offset =
    if has_same_byte first.content second.content offset
    then difference_is.Site number offset (target_of first offset) (target_of second offset)
    else difference_is.Byte number offset (byte_of first offset) (byte_of second offset)

-- the difference, unless the test passes; else the next one
abbrev pub unless : Bool → Difference → Option Difference → Option Difference
unless true difference next = next
unless false difference next = Some difference

-- in what the hunks with this number hold, in memory and size
abbrev pub head_difference : ℕ → FileHunk → FileHunk → Option Difference
head_difference number first second =
    unless (is_same_kind first.kind second.kind) (difference_is.Kind number first.kind second.kind)
    (unless (is_same_memory first.memory second.memory) (difference_is.Memory number first.memory second.memory)
    (unless (first.size == second.size) (difference_is.Size number first.size second.size) None))

-- in their bytes and sites
abbrev pub inside_difference : ℕ → FileHunk → FileHunk → Option Difference
inside_difference number first second = option_map (difference_at number first second) (first_offset first second)

-- of the hunks with this number
abbrev pub hunk_difference : ℕ → FileHunk → FileHunk → Option Difference
hunk_difference number first second =
    unless (is_same_kind first.kind second.kind) (difference_is.Kind number first.kind second.kind)
    (unless (is_same_memory first.memory second.memory) (difference_is.Memory number first.memory second.memory)
    (unless (first.size == second.size) (difference_is.Size number first.size second.size)
    (inside_difference number first second)))

-- ---- where two files differ

-- The first difference of hunks in the same places, which are numbered from this number on.
abbrev pub hunks_difference : ℕ → List FileHunk → List FileHunk → Option Difference
hunks_difference number (first ∷ firsts) (second ∷ seconds) = option_or (hunk_difference number first second) (hunks_difference (number + 1) firsts seconds)
hunks_difference number _ _ = None

abbrev pub first_difference : List FileHunk → List FileHunk → Option Difference
first_difference first second =
    unless (length first == length second) (difference_is.HunkCount (length first) (length second)) (hunks_difference 0 first second)

-- ---- what holds of the hunks of each load file

-- The content and the sites lie in the hunk, which is no larger than a load file may be.
pub record LiesInItsSize (hunk : FileHunk) : Type 0 where
  pub content : length hunk.content ≤ 4 * hunk.size
  pub limit : hunk.sites.limit ≡ 4 * hunk.size
  pub small : hunk.size ≤ most_size

-- ---- a content that is not at hand

-- where the second content first differs, of so many bytes, and its byte there
abbrev pub unlike_byte : List ℕ → List ℕ → ℕ → Option (ℕ × ℕ)
unlike_byte first second count =
    option_map (λ offset. (offset, byte_or_zero second offset)) (lowest (λ offset. not (has_same_byte first second offset)) 0 count)

-- the hunk with this content in place of its own
abbrev pub with_bytes : FileHunk → List ℕ → FileHunk
with_bytes hunk content = record hunk { content = content }

-- This is where this content of the second hunk, which lies in it, first differs, with zeros after the shorter one.
pub record IsUnlike (first second : FileHunk) (content : List ℕ) (unlike : Option (ℕ × ℕ)) : Type 0 where
  pub within : length content ≤ 4 * second.size
  pub place : unlike ≡ unlike_byte first.content content (max (length first.content) (length content))
