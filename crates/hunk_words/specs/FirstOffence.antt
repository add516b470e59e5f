-- The first offence of longwords that are not a file: its place, and its reason by the table of
-- faults and the rules for sites. No machine occurs in it: what is expected at a place is what
-- every completion of the prefix before it has there.
use Rattle.std.specs.Prelude.{◌≡◌, ℕ, zero, suc, ◌/◌, ◌%◌, ◌^◌, ◌<◌, List, [], ◌∷◌, ◌++◌, length, Option, Some, None}
use Rattle.hunk_words.specs.Kinds.{Kind, Field, width}
use Rattle.hunk_words.specs.FaultTable.{judged, and_then}
use Rattle.hunk_words.specs.Kinds.Width.{long, half}
use Rattle.hunk_words.specs.Kinds.Kind.{past_end}
use Rattle.hunk_words.specs.FieldLongwords.{fields_in, fields_after}
use Rattle.hunk_words.specs.SiteRules.{limit_of, site_judged, seen_after, seen_all}
use Rattle.hunk_words.specs.Files.{Tree, Fits, spelling, longwords_spelled, most_longwords, IsFile, IsValidPrefix}
use Rattle.hunk_words.specs.declared.event.FileKind.{FileKind}
use Rattle.hunk_words.specs.declared.event.FileKind.TheVariants.{Load}
use Rattle.hunk_words.specs.declared.kinds.Half.TheVariants.{Upper as upper}
use Rattle.hunk_base.specs.declared.fault.Reason.{Reason}
use Rattle.hunk_base.specs.declared.fault.Reason.TheVariants.{TooLarge, PartialLongword, UnexpectedEnd}

-- The prefix is followed by a file's numbers, with this longword next.
pub record Completion (kind : FileKind) (front : List ℕ) : Type 0 where
  pub tree : Tree kind
  pub fits : Fits kind tree
  pub next : ℕ
  pub more : List ℕ
  pub begins : longwords_spelled kind tree ≡ front ++ (next ∷ more)

-- ---- what a completion has at a place

-- the kind of the first field, and of the second
abbrev pub first_kind : List Field → Option Kind
first_kind [] = None
first_kind (f ∷ fs) = Some f.kind

abbrev pub second_kind : List Field → Option Kind
second_kind [] = None
second_kind (f ∷ fs) = first_kind fs

-- the offsets of the hunk's sites, after one more field
abbrev pub seen_with_first : List ℕ → List Field → List ℕ
seen_with_first seen [] = seen
seen_with_first seen (f ∷ fs) = seen_after f.kind f.number seen

-- the kind of longword n of a spelling, or of its upper half; and the offsets of the earlier sites
-- of its hunk
abbrev pub kind_at : ℕ → List Field → Option Kind
kind_at n fs = first_kind (fields_after n fs)

abbrev pub seen_before : ℕ → List Field → List ℕ
seen_before n fs = seen_all [] (fields_in n fs)

-- the same for its lower half
abbrev pub lower_kind_at : ℕ → List Field → Option Kind
lower_kind_at n fs = second_kind (fields_after n fs)

abbrev pub seen_before_lower : ℕ → List Field → List ℕ
seen_before_lower n fs = seen_with_first (seen_before n fs) (fields_after n fs)

-- The prefix has a completion, and each one has this kind after it, with these sites before it.
pub record IsDue (kind : FileKind) (front : List ℕ) (k : Kind) (seen : List ℕ) : Type 0 where
  pub some : Completion kind front
  pub bears : (c : Completion kind front) → kind_at (length front) (spelling kind c.tree) ≡ Some k
  pub before : (c : Completion kind front) → seen_before (length front) (spelling kind c.tree) ≡ seen

-- The same for the lower half after the prefix and this upper half.
pub record IsLowerDue (kind : FileKind) (front : List ℕ) (m : ℕ) (k : Kind) (seen : List ℕ) : Type 0 where
  pub some : Completion kind front
  pub some_is : some.next / 2 ^ 16 ≡ m
  pub bears : (c : Completion kind front) → c.next / 2 ^ 16 ≡ m → lower_kind_at (length front) (spelling kind c.tree) ≡ Some k
  pub before : (c : Completion kind front) → c.next / 2 ^ 16 ≡ m → seen_before_lower (length front) (spelling kind c.tree) ≡ seen

-- ---- the reason

-- what is wrong with a number of this kind, with these earlier sites in its hunk: the table, and
-- then the rules for sites
abbrev pub wrong_with : Kind → List ℕ → ℕ → Option Reason
wrong_with k seen n = and_then (judged k n) (site_judged (limit_of k) seen n)

-- The longword is blamed for this reason after the prefix.
pub data Blames (kind : FileKind) (front : List ℕ) (bad : ℕ) (r : Reason) : Type 0 where
  -- no file is this long
  too_large : length front ≡ most_longwords → r ≡ TooLarge → Blames kind front bad r
  -- after a whole load file
  behind_file : length front < most_longwords → kind ≡ Load → IsFile kind front → judged past_end bad ≡ Some r → Blames kind front bad r
  -- where a whole longword is expected
  longword : {k : Kind} {seen : List ℕ} → length front < most_longwords → IsDue kind front k seen → width k ≡ long → wrong_with k seen bad ≡ Some r → Blames kind front bad r
  -- where two halves are expected: the upper one before the lower one
  upper_half : {k : Kind} {seen : List ℕ} → length front < most_longwords → IsDue kind front k seen → width k ≡ half upper → wrong_with k seen (bad / 2 ^ 16) ≡ Some r → Blames kind front bad r
  lower_half : {k l : Kind} {seen seen_lower : List ℕ} → length front < most_longwords → IsDue kind front k seen → width k ≡ half upper → wrong_with k seen (bad / 2 ^ 16) ≡ None → IsLowerDue kind front (bad / 2 ^ 16) l seen_lower → wrong_with l seen_lower (bad % 2 ^ 16) ≡ Some r → Blames kind front bad r

-- The first offence is the longword at this place: what comes before it is a valid prefix, and is
-- none with it.
pub record OffendsAt (kind : FileKind) (ws : List ℕ) (place : ℕ) (r : Reason) : Type 0 where
  pub front : List ℕ
  pub bad : ℕ
  pub behind : List ℕ
  pub parts : ws ≡ front ++ (bad ∷ behind)
  pub at_place : place ≡ length front
  pub good : IsValidPrefix kind front
  pub no_longer : IsValidPrefix kind (front ++ (bad ∷ [])) → ⊥
  pub blames : Blames kind front bad r

-- the reason if the input ends too early, with this many bytes of a longword
abbrev pub end_reason : ℕ → Reason
end_reason zero = UnexpectedEnd
end_reason (suc n) = PartialLongword

-- The first offence is the end: the longwords are a valid prefix, but not a file, or some bytes of
-- a longword follow.
pub record EndsEarly (kind : FileKind) (ws : List ℕ) (rest place : ℕ) (r : Reason) : Type 0 where
  pub good : IsValidPrefix kind ws
  pub not_whole : rest ≡ 0 → IsFile kind ws → ⊥
  pub at_place : place ≡ length ws
  pub is_reason : r ≡ end_reason rest

-- Longwords, followed by this many bytes of a further one (0 to 3), are not a file, and this is
-- their first offence.
pub data FirstOffence (kind : FileKind) (ws : List ℕ) (rest place : ℕ) (r : Reason) : Type 0 where
  longword_offends : OffendsAt kind ws place r → FirstOffence kind ws rest place r
  end_offends : EndsEarly kind ws rest place r → FirstOffence kind ws rest place r
