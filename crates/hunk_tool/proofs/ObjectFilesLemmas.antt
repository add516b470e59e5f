-- The units of one more file.
use Rattle.std.proofs.Common.{◌≡◌, ◌∙◌, ℕ, ◌+◌, List, [], ◌∷◌, ◌++◌, length, add-zero, append-nil, append_assoc, refl, sym, ap, subst, arith}
use Rattle.std.specs.List.{zip}
use Rattle.std.proofs.lemmas.List.{map-append}
use Rattle.std.proofs.lemmas.List.FromFn.{length-map-range_with_len}
use Rattle.std.proofs.lemmas.Slice.Zip.{seconds-zip}
use Rattle.hunk_objects.specs.ProgramUnit.{IsObjectOf, ObjectUnit}
use Rattle.hunk_tool.specs.Inputs.{AreObjects, HaveRead, Input}
use Rattle.hunk_tool.specs.ObjectFiles.{AreFileUnits, AreUnitsFrom, FileUnit, placed, places_of, units_of}
use Rattle.hunk_tool.specs.declared.object_files.UnitPlace.{UnitPlace}
use Rattle.hunk_tool.proofs.InputsLemmas.{HaveRead-weaker}

-- ---- one more file

pub length-places_of : (file count : ℕ) → length (places_of file count) ≡ count
length-places_of file count =
    let place : ℕ → UnitPlace = λ number. record { file = file; number = number } in
    length-map-range_with_len place 0 count

pub units_of-placed : (file : ℕ) (units : List ObjectUnit) → units_of (placed file units) ≡ units
units_of-placed file units = seconds-zip (places_of file (length units)) units (sym (length-places_of file (length units)))

pub zip-more : {A B : Type 0} (places more_places : List A) (units more : List B) → length places ≡ length units → zip (places ++ more_places) (units ++ more) ≡ zip places units ++ zip more_places more
zip-more [] more_places [] more same = refl
zip-more [] more_places (unit ∷ units) more same = absurd (omega (arith, same))
zip-more (place ∷ places) more_places [] more same = absurd (omega (arith, same))
zip-more {A = A} {B = B} (place ∷ places) more_places (unit ∷ units) more same =
    ap (λ (rest : List (A × B)). (place, unit) ∷ rest) (zip-more places more_places units more (omega (arith, same)))

pub AreUnitsFrom-more : (number : ℕ) (files : List (List ℕ)) (bytes : List ℕ) (units : List FileUnit) (more : List ObjectUnit) → AreUnitsFrom number files units → IsObjectOf more bytes
    → AreUnitsFrom number (files ++ bytes ∷ []) (units ++ placed (number + length files) more)
AreUnitsFrom-more number [] bytes units more none is = (
  more,
  [],
  is,
  refl,
  ap (λ (first : List FileUnit). first ++ placed (number + 0) more) none ∙ ap (λ n. placed n more) (add-zero number) ∙ sym (append-nil (placed number more)),
)
AreUnitsFrom-more number (file ∷ files) bytes units more are is =
    let last : List FileUnit = placed (number + 1 + length files) more in (
      are.0,
      are.1 ++ last,
      are.2,
      AreUnitsFrom-more (number + 1) files bytes are.1 more are.3 is,
      ap (λ (all : List FileUnit). all ++ placed (number + length (file ∷ files)) more) are.4
          ∙ ap (λ n. (placed number are.0 ++ are.1) ++ placed n more) (omega arith)
          ∙ append_assoc (placed number are.0) are.1 last,
    )

pub AreObjects-units : (number : ℕ) (files : List (List ℕ)) (units : List FileUnit) → AreUnitsFrom number files units → AreObjects files (units_of units)
AreObjects-units number [] units none = ap units_of none
AreObjects-units number (bytes ∷ files) units are =
    let unit : FileUnit → ObjectUnit = λ u. u.1 in (
      are.0,
      units_of are.1,
      are.2,
      AreObjects-units (number + 1) files are.1 are.3,
      ap units_of are.4 ∙ map-append unit (placed number are.0) are.1 ∙ ap (λ (us : List ObjectUnit). us ++ units_of are.1) (units_of-placed number are.0),
    )

-- The files have these units.
pub HaveRead-objects : (inputs : List Input) (files : List FileUnit) (units : List ObjectUnit) → units ≡ units_of files → HaveRead inputs (AreFileUnits files) → HaveRead inputs (λ all. AreObjects all units)
HaveRead-objects inputs files units are read =
    HaveRead-weaker inputs (AreFileUnits files) (λ all. AreObjects all units) (λ all is. subst (AreObjects all) (sym are) (AreObjects-units 0 all files is)) read
