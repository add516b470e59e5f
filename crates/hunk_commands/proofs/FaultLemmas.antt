-- Faults that `==` finds equal are one.
use Rattle.std.proofs.Common.{◌≡◌, ◌∙◌, ap, ap₂, eq-eqb, eqb-true, false, refl, sym, true, true≢false, Bool}
use Rattle.std.proofs.lemmas.Bool.{and_parts}
use Rattle.std.specs.Cmp.Derive.{both_true}
use Rattle.hunk_base.specs.contracts.fault.FaultPartialEq.TheImpl as fault_eq
use Rattle.hunk_base.specs.contracts.fault.ReasonPartialEq.TheImpl as reason_eq
use Rattle.hunk_base.specs.declared.fault.Fault.{Fault}
use Rattle.hunk_base.specs.declared.fault.Reason.{Reason}
use Rattle.hunk_base.specs.declared.fault.Reason.TheVariants.{PartialLongword, UnexpectedEnd, WrongStart, UnknownType, MisplacedType, UnsupportedBlock, UnsupportedExt, BothMemoryBits, ResidentNames, HunkTable, TooLarge, ContentTooLong, NoSuchHunk, SiteOutside, SiteOverlap, SymbolKind, TrailingData}

-- what `==` says of reasons and of faults

abbrev equal_reasons : Reason → Reason → Bool
equal_reasons = (reason_eq.ghosts).eq

abbrev equal_faults : Fault → Fault → Bool
equal_faults = (fault_eq.ghosts).eq

one_reason : (a b : Reason) → equal_reasons a b ≡ true → a ≡ b
one_reason PartialLongword PartialLongword equal = refl
one_reason UnexpectedEnd UnexpectedEnd equal = refl
one_reason WrongStart WrongStart equal = refl
one_reason (UnknownType x) (UnknownType y) equal = ap UnknownType (eqb-true x y equal)
one_reason (MisplacedType x) (MisplacedType y) equal = ap MisplacedType (eqb-true x y equal)
one_reason (UnsupportedBlock x) (UnsupportedBlock y) equal = ap UnsupportedBlock (eqb-true x y equal)
one_reason (UnsupportedExt x) (UnsupportedExt y) equal = ap UnsupportedExt (eqb-true x y equal)
one_reason BothMemoryBits BothMemoryBits equal = refl
one_reason ResidentNames ResidentNames equal = refl
one_reason HunkTable HunkTable equal = refl
one_reason TooLarge TooLarge equal = refl
one_reason ContentTooLong ContentTooLong equal = refl
one_reason (NoSuchHunk x) (NoSuchHunk y) equal = ap NoSuchHunk (eqb-true x y equal)
one_reason (SiteOutside x) (SiteOutside y) equal = ap SiteOutside (eqb-true x y equal)
one_reason (SiteOverlap x) (SiteOverlap y) equal = ap SiteOverlap (eqb-true x y equal)
one_reason (SymbolKind x) (SymbolKind y) equal = ap SymbolKind (eqb-true x y equal)
one_reason TrailingData TrailingData equal = refl
one_reason a b equal = absurd (true≢false (sym equal))

equal_to_itself : (a : Reason) → equal_reasons a a ≡ true
equal_to_itself PartialLongword = refl
equal_to_itself UnexpectedEnd = refl
equal_to_itself WrongStart = refl
equal_to_itself (UnknownType x) = eq-eqb x x refl
equal_to_itself (MisplacedType x) = eq-eqb x x refl
equal_to_itself (UnsupportedBlock x) = eq-eqb x x refl
equal_to_itself (UnsupportedExt x) = eq-eqb x x refl
equal_to_itself BothMemoryBits = refl
equal_to_itself ResidentNames = refl
equal_to_itself HunkTable = refl
equal_to_itself TooLarge = refl
equal_to_itself ContentTooLong = refl
equal_to_itself (NoSuchHunk x) = eq-eqb x x refl
equal_to_itself (SiteOutside x) = eq-eqb x x refl
equal_to_itself (SiteOverlap x) = eq-eqb x x refl
equal_to_itself (SymbolKind x) = eq-eqb x x refl
equal_to_itself TrailingData = refl

pub one_fault : (a b : Fault) → (a.place ≡ b.place) × (a.reason ≡ b.reason) → a ≡ b
one_fault a b same = ap₂ (λ place reason. record { place = place; reason = reason }) same.0 same.1

-- where `==` holds, and where it does not

pub same_fault : (a b : Fault) → true ≡ equal_faults a b → a ≡ b
unfolding one_fault
same_fault a b equal =
    let parts = and_parts _ _ (sym equal) in
    one_fault a b (eqb-true a.place b.place parts.0, one_reason a.reason b.reason parts.1)

pub other_fault : (a b : Fault) → false ≡ equal_faults a b → a ≡ b → ⊥
other_fault a b differs same =
    let itself : equal_faults a a ≡ true = both_true (eq-eqb a.place a.place refl) (equal_to_itself a.reason) in
    let both : false ≡ true = differs ∙ (ap (equal_faults a) (sym same) ∙ itself) in
    cc
