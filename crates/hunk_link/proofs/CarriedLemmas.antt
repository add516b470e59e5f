-- What holds of the hunks of the load file.
use Rattle.std.proofs.Common.{◌≡◌, ℕ, ◌*◌, Bool, true, false, List, [], length}
use Rattle.hunk_base.specs.Sites.{SiteMap}
use Rattle.hunk_words.specs.declared.kinds.HunkKind.{HunkKind}
use Rattle.hunk_words.specs.declared.kinds.Memory.{Memory}
use Rattle.hunk_loadfile.specs.Laws.{second_sites}
use Rattle.hunk_loadfile.specs.LoadHunk.{FileHunk}
use Rattle.hunk_loadfile.specs.Patching.{patched_bytes}
use Rattle.hunk_objects.specs.UnitHunk.{ObjectHunk}
use Rattle.hunk_objects.specs.declared.unit_hunk.Adds.{Adds}
use Rattle.hunk_link.specs.Carried.{carried_hunk, unless_stripped}
use Rattle.hunk_link.specs.declared.addend.Addend.{Addend}

-- ---- stripping

pub stripped : {T : Type 0} (strip : Bool) (items all : List T) → strip ≡ true → items ≡ [] → items ≡ unless_stripped strip all
stripped true items all is none = none
stripped false items all is none = absurd (cc)

pub kept : {T : Type 0} (strip : Bool) (items all : List T) → strip ≡ false → items ≡ all → items ≡ unless_stripped strip all
kept false items all is same = same
kept true items all is same = absurd (cc)

-- ---- one hunk

-- the hunk whose fields are these
module _ (addend : Adds → Addend) (strip : Bool) (hunk : ObjectHunk) (bytes : List ℕ) (sites : SiteMap Adds) (size : ℕ) (bytes_is : bytes ≡ hunk.content) (sites_is : sites ≡ hunk.sites) (size_is : size ≡ hunk.size) where
  with_fields : (kind : HunkKind) (memory : Memory) (size' : ℕ) (content : List ℕ) (left : SiteMap ℕ) (symbols : List (List ℕ × ℕ)) (debugs : List (List ℕ))
      → kind ≡ hunk.kind → memory ≡ hunk.memory → size' ≡ hunk.size
      → content ≡ patched_bytes (length bytes) bytes sites.entries (λ adds. (addend adds).known)
      → left ≡ record { limit = 4 * size; entries = second_sites (λ adds. (addend adds).base) sites.entries }
      → symbols ≡ unless_stripped strip hunk.symbols → debugs ≡ unless_stripped strip hunk.debugs
      → ◌≡◌ {A = FileHunk} (record { kind = kind; memory = memory; size = size'; content = content; sites = left; symbols = symbols; debugs = debugs }) (carried_hunk addend strip hunk)
  with_fields kind memory size' content left symbols debugs is_kind is_memory is_size is_content is_left is_symbols is_debugs = cc

  pub carried_hunk-is : (made : FileHunk) → made.kind ≡ hunk.kind → made.memory ≡ hunk.memory → made.size ≡ hunk.size
      → made.content ≡ patched_bytes (length bytes) bytes sites.entries (λ adds. (addend adds).known)
      → made.sites ≡ record { limit = 4 * size; entries = second_sites (λ adds. (addend adds).base) sites.entries }
      → made.symbols ≡ unless_stripped strip hunk.symbols → made.debugs ≡ unless_stripped strip hunk.debugs → made ≡ carried_hunk addend strip hunk
  carried_hunk-is made = with_fields made.kind made.memory made.size made.content made.sites made.symbols made.debugs
