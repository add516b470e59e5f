-- The rules for sites: a site is the four bytes from an offset, it lies inside its hunk, and no two
-- sites of a hunk share a byte (own: the sum would depend on the order). They are separate from the
-- table of faults.
use Rattle.std.specs.Prelude.{◌≡◌, ℕ, ◌+◌, Bool, true, List, [], ◌∷◌, Option, Some, None, nat_le, ◌&&◌, if◌then◌else◌}
use Rattle.hunk_words.specs.Kinds.{Kind, Field, low, type_of}
use Rattle.hunk_words.specs.FaultTable.{reject_unless}
use Rattle.hunk_words.specs.Kinds.Kind.{block_type, offset, ref_offset, short_offset}
use Rattle.hunk_words.specs.declared.kinds.BlockType.{BlockType}
use Rattle.hunk_words.specs.declared.kinds.BlockType.TheVariants.{End as end}
use Rattle.hunk_base.specs.declared.fault.Reason.{Reason}
use Rattle.hunk_base.specs.declared.fault.Reason.TheVariants.{SiteOutside, SiteOverlap}

-- the site limit of a kind that is an offset
abbrev pub limit_of : Kind → Option ℕ
limit_of (offset limit target) = Some limit
limit_of (ref_offset limit) = Some limit
limit_of (short_offset h limit target) = Some limit
limit_of _ = None

-- the sites at these two offsets share no byte
abbrev pub apart : ℕ → ℕ → Bool
apart o p = if nat_le (o + 4) p then true else nat_le (p + 4) o

abbrev pub all_apart : ℕ → List ℕ → Bool
all_apart o [] = true
all_apart o (p ∷ ps) = apart o p && all_apart o ps

-- A site lies inside its hunk's limit, and shares no byte with an earlier one. `seen` are the
-- offsets of this hunk's sites so far.
abbrev pub site_judged : Option ℕ → List ℕ → ℕ → Option Reason
site_judged None seen o = None
site_judged (Some limit) seen o = if nat_le (o + 4) limit then reject_unless (all_apart o seen) (SiteOverlap o) else Some (SiteOutside o)

-- a hunk's sites so far, after a block's type: none after END
abbrev pub seen_at : BlockType → List ℕ → List ℕ
seen_at end seen = []
seen_at _ seen = seen

abbrev pub seen_after : Kind → ℕ → List ℕ → List ℕ
seen_after (offset limit target) n seen = n ∷ seen
seen_after (ref_offset limit) n seen = n ∷ seen
seen_after (short_offset h limit target) n seen = n ∷ seen
seen_after (block_type w limit) n seen = seen_at (type_of (low n)) seen
seen_after k n seen = seen

-- the offsets of this hunk's sites after these fields
abbrev pub seen_all : List ℕ → List Field → List ℕ
seen_all seen [] = seen
seen_all seen (f ∷ fs) = seen_all (seen_after f.kind f.number seen) fs

-- the sites among these fields obey the rules
abbrev pub Obeys : List ℕ → List Field → Type 0
Obeys seen [] = Unit {0}
Obeys seen (f ∷ fs) = (site_judged (limit_of f.kind) seen f.number ≡ None) × Obeys (seen_after f.kind f.number seen) fs
