-- How many bytes the line has that tells where two load files first differ in what they mean.
use Rattle.std.proofs.Common.{◌≡◌, ℕ, ◌+◌, ◌*◌, ◌^◌, ◌<◌, ◌≤◌, ◌==◌, Bool, true, false, cond, inl, inr, List, [], ◌∷◌, length, Option, Some, None, IfSome, refl, subst, arith}
use Rattle.std.specs.BTreeMap.{is_at}
use Rattle.std.specs.List.{All}
use Rattle.std.specs.Option.{option_map, option_or}
use Rattle.std.specs.Ordering.{nat_cmp}
use Rattle.std.proofs.lemmas.Bool.{cases_Bool}
use Rattle.std.proofs.lemmas.List.{length-append}
use Rattle.std.proofs.lemmas.List.Elements.{All-head, All-tail, All-weaker}
use Rattle.std.proofs.lemmas.List.Sums.{get_or-le-sum_by}
use Rattle.std.proofs.lemmas.Option.{same_Some}
use Rattle.hex.specs.Hex.{lower_digits}
use Rattle.hex.proofs.HexLemmas.{length-encode_with}
use Rattle.hunk_base.specs.Sites.{target_at}
use Rattle.hunk_base.proofs.DigitsLemmas.{length-decimal}
use Rattle.hunk_loadfile.specs.Difference.{difference_at, first_offset, has_same_byte, hunk_difference, hunks_difference, is_same_kind, is_same_memory, unless}
use Rattle.hunk_loadfile.specs.LoadHunk.{FileHunk}
use Rattle.hunk_loadfile.specs.Rules.{IsLoadFile}
use Rattle.hunk_loadfile.specs.declared.difference.Difference.{Difference}
use Rattle.hunk_loadfile.specs.declared.difference.Difference.TheVariants.{HunkCount, Kind, Memory, Size, Byte, Site}
use Rattle.hunk_text.specs.DifferenceText.{difference_line, target_text, two_digits}
use Rattle.hunk_text.specs.Laws.{DifferenceFits}
use Rattle.hunk_text.proofs.ListingSizeLemmas.{length-adds_hunk-le, length-eight_digits, length-kind_word-le, length-memory_word-le}

-- ---- a line

abbrev pub IsCount : ℕ → Type 0
IsCount n = n < 2 ^ 64

-- The numbers that are told in decimal digits have at most 64 bits.
abbrev IsCounted : Difference → Type 0
IsCounted (HunkCount first second) = IsCount first × IsCount second
IsCounted (Kind hunk first second) = IsCount hunk
IsCounted (Memory hunk first second) = IsCount hunk
IsCounted (Size hunk first second) = IsCount hunk × (first < 2 ^ 32) × (second < 2 ^ 32)
IsCounted (Byte hunk offset first second) = IsCount hunk
IsCounted (Site hunk offset first second) = IsCount hunk × IfSome first IsCount × IfSome second IsCount

length-two_digits : (byte : ℕ) → length (two_digits byte) ≡ 2
length-two_digits byte = length-encode_with lower_digits (byte ∷ [])

length-target_text-le : (target : Option ℕ) → IfSome target IsCount → length (target_text target) ≤ 25
length-target_text-le None counted = omega arith
length-target_text-le (Some hunk) counted = length-adds_hunk-le hunk counted

length-difference_line-le : (difference : Difference) → IsCounted difference → length (difference_line difference) ≤ 128
length-difference_line-le (HunkCount first second) (one, other) = simp length-append (omega (arith, length-decimal first one, length-decimal second other))
length-difference_line-le (Kind hunk first second) counted =
    simp length-append (omega (arith, length-decimal hunk counted, length-kind_word-le first, length-kind_word-le second))
length-difference_line-le (Memory hunk first second) counted =
    simp length-append (omega (arith, length-decimal hunk counted, length-memory_word-le first, length-memory_word-le second))
length-difference_line-le (Size hunk first second) (counted, one, other) =
    simp length-append (omega (arith, length-decimal hunk counted, length-decimal (4 * first) (omega arith), length-decimal (4 * second) (omega arith)))
length-difference_line-le (Byte hunk offset first second) counted =
    simp length-append (omega (arith, length-decimal hunk counted, length-eight_digits offset, length-two_digits first, length-two_digits second))
length-difference_line-le (Site hunk offset first second) (counted, one, other) =
    simp length-append (omega (arith, length-decimal hunk counted, length-eight_digits offset, length-target_text-le first one, length-target_text-le second other))

-- ---- what is found first

module _ {X : Type 0} (P : X → Type 0) (told : X) where
  pub map-told : {Y : Type 0} (f : Y → X) (found : Option Y) → ((y : Y) → found ≡ Some y → P (f y)) → option_map f found ≡ Some told → P told
  map-told f None holds is = absurd (cc)
  map-told f (Some y) holds is = subst P (same_Some (f y) told is) (holds y refl)

  pub or-told : (one other : Option X) → (one ≡ Some told → P told) → (other ≡ Some told → P told) → option_or one other ≡ Some told → P told
  or-told None other here later is = later is
  or-told (Some x) other here later is = here is

module _ (told : Difference) where
  unless-told : (test : Bool) (here : Difference) (next : Option Difference) → IsCounted here → (next ≡ Some told → IsCounted told) → unless test here next ≡ Some told → IsCounted told
  unless-told true here next counted later is = later is
  unless-told false here next counted later is = subst IsCounted (same_Some here told is) counted

-- ---- hunks

-- its size and the targets of its sites can be counted
record HasCounts (hunk : FileHunk) : Type 0 where
  size : hunk.size < 2 ^ 32
  targets : All (λ site. IsCount site.1) hunk.sites.entries

cond-counted : (test : Bool) (target : ℕ) (rest : Option ℕ) → IsCount target → IfSome rest IsCount → IfSome (cond test (Some target) rest) IsCount
cond-counted true target rest here later = here
cond-counted false target rest here later = later

target_at-counted : (offset : ℕ) (sites : List (ℕ × ℕ)) → All (λ site. IsCount site.1) sites → IfSome (target_at sites offset) IsCount
target_at-counted offset [] all = tt
target_at-counted offset (site ∷ sites) all =
    cond-counted (is_at (nat_cmp offset) site.0) site.1 (target_at sites offset) (All-head (λ s. IsCount s.1) site sites all)
    (target_at-counted offset sites (All-tail (λ s. IsCount s.1) site sites all))

difference_at-counted : (number : ℕ) (first second : FileHunk) (offset : ℕ) → IsCount number → HasCounts first → HasCounts second → IsCounted (difference_at number first second offset)
difference_at-counted number first second offset counted one other = elim (cases_Bool (has_same_byte first.content second.content offset)) [
  | inl same ↦ rw same (counted, target_at-counted offset first.sites.entries one.targets, target_at-counted offset second.sites.entries other.targets)
  | inr unlike ↦ rw unlike counted
]

hunk_difference-counted : (told : Difference) (number : ℕ) (first second : FileHunk) → IsCount number → HasCounts first → HasCounts second
    → hunk_difference number first second ≡ Some told → IsCounted told
hunk_difference-counted told number first second counted one other =
    unless-told told (is_same_kind first.kind second.kind) _ _ counted
    (unless-told told (is_same_memory first.memory second.memory) _ _ counted
    (unless-told told (first.size == second.size) _ _ (counted, one.size, other.size)
    (map-told IsCounted told (difference_at number first second) (first_offset first second) (λ offset found. difference_at-counted number first second offset counted one other))))

-- ---- files

hunks_difference-counted : (told : Difference) (number : ℕ) (firsts seconds : List FileHunk) → number + length firsts ≤ 2 ^ 64 → All HasCounts firsts → All HasCounts seconds
    → hunks_difference number firsts seconds ≡ Some told → IsCounted told
hunks_difference-counted told number [] seconds few ones others is = absurd (cc)
hunks_difference-counted told number (first ∷ firsts) [] few ones others is = absurd (cc)
hunks_difference-counted told number (first ∷ firsts) (second ∷ seconds) few ones others is =
    or-told IsCounted told (hunk_difference number first second) (hunks_difference (number + 1) firsts seconds)
    (hunk_difference-counted told number first second (omega arith) (All-head HasCounts first firsts ones) (All-head HasCounts second seconds others))
    (hunks_difference-counted told (number + 1) firsts seconds (omega arith) (All-tail HasCounts first firsts ones) (All-tail HasCounts second seconds others)) is

HasCounts-all : (hunks : List FileHunk) → IsLoadFile hunks → All HasCounts hunks
HasCounts-all hunks valid i hunk low =
    record {
      size = omega (arith, valid.small, get_or-le-sum_by (λ (h : FileHunk). h.size) hunks i hunk low);
      targets = All-weaker (λ site. site.1 < length hunks) (λ site. IsCount site.1) (λ site target. omega (arith, target, valid.few)) _ (valid.each i hunk low).targets;
    }

pub difference-fits : DifferenceFits
difference-fits first second difference one other is =
    let few : length first < 2 ^ 64 = omega (arith, one.few) in
    let many : length second < 2 ^ 64 = omega (arith, other.few) in
    let counted =
    unless-told difference (length first == length second) _ _ (few, many)
    (hunks_difference-counted difference 0 first second (omega arith) (HasCounts-all first one) (HasCounts-all second other)) is in
    omega (arith, length-difference_line-le difference counted)
