-- How many bytes the document of an object file has.
use Rattle.std.proofs.Common.{◌≡◌, ◌∙◌, ℕ, ◌+◌, ◌*◌, ◌≤◌, List, [], ◌∷◌, Bool, true, false, drop, length, get_or, sum_by, ap, refl, sym, arith}
use Rattle.std.specs.List.{All}
use Rattle.std.proofs.lemmas.List.{length-append}
use Rattle.std.proofs.lemmas.List.Elements.{All-cons, All-head, All-nil, All-tail}
use Rattle.std.proofs.lemmas.List.Sums.{sum_by-cons}
use Rattle.json.specs.Print.{escape_byte}
use Rattle.serde_json.specs.Data.{boolean}
use Rattle.hunk_objects.specs.ProgramUnit.{IsObjectOf, ObjectUnit}
use Rattle.hunk_objects.specs.UnitHunk.{ObjectHunk}
use Rattle.hunk_objects.specs.declared.unit_hunk.Adds.{Adds}
use Rattle.hunk_objects.specs.declared.unit_hunk.Adds.TheVariants.{Hunk, Reference}
use Rattle.hunk_objects.specs.declared.unit_hunk.Definition.{Definition}
use Rattle.hunk_objects.specs.declared.unit_hunk.Definition.TheVariants.{At, Absolute}
use Rattle.hunk_text.proofs.ListingSizeLemmas.{HasShortName}
use Rattle.hunk_text.proofs.ListingSizeObjectLemmas.{ArePrintable, IsPrintable, IsShort, hunk_weight, short-reference, unit_weight}
use Rattle.hunk_text.proofs.ListingSizeUnitsLemmas.{printable-object}
use Rattle.hunk_json.specs.Document.{document}
use Rattle.hunk_json.specs.FileJson.{adds_json, definition_json, hunks_json, listed, meaning_json, object_json, site_json, stands_for_json, unit_hunk_json, unit_json, units_at}
use Rattle.hunk_json.specs.declared.form.JsonForm.{JsonForm}
use Rattle.hunk_json.proofs.DocumentLemmas.{document-told, told-utf8}
use Rattle.hunk_json.proofs.DocumentSizeLemmas.{length-each-le, length-listed-le, length-name-le, length-natural-le}
use Rattle.hunk_json.proofs.FileJsonLemmas.{adds-told, boolean-document, content-members, kind_object-document, meaning-told, object-told, stands_for-told, unit-told, unit_hunk-told, unit_hunk-utf8}
use Rattle.hunk_json.proofs.FileSizeLemmas.{length-content-le, length-debugs-le, length-hunk_site-le, length-hunks-le, length-kind-le, length-memory-le, length-symbols-le, most_document, most_element, most_part}

length-adds-le : (form : JsonForm) (references : List (List ℕ)) (offset : ℕ) (adds : Adds) → All IsShort references → length (document form (adds_json references offset adds)) + 1 ≤ most_element
unfolding escape_byte
length-adds-le form references offset (Hunk hunk) short = length-hunk_site-le form (offset, hunk)
length-adds-le form references offset (Reference index) short =
    let name = get_or references index [] in
    rw (document-told form (adds_json references offset (Reference index)) (adds-told references offset (Reference index)))
    (simp length-append (omega (arith, length-name-le form name, short-reference references index short, length-natural-le form offset)))

length-sites-le : (form : JsonForm) (hunk : ObjectHunk) → IsPrintable hunk → length (document form (listed (site_json hunk.references) hunk.sites.entries)) ≤ 2 + most_element * length hunk.sites.entries
length-sites-le form hunk is =
    length-each-le form (site_json hunk.references) most_element (λ site. Unit {0}) hunk.sites.entries (λ site. told-utf8 (site_json hunk.references site) (adds-told hunk.references site.0 site.1))
    (λ site any. length-adds-le form hunk.references site.0 site.1 is.references) (λ k d within. tt)

length-boolean-le : (form : JsonForm) (b : Bool) → length (document form (boolean b)) ≤ 5
length-boolean-le form true = rw (boolean-document form true) (omega arith)
length-boolean-le form false = rw (boolean-document form false) (omega arith)

length-stands_for-le : (form : JsonForm) (name : List ℕ) (absolute : Bool) (value : ℕ) → IsShort name → length (document form (stands_for_json name absolute value)) + 1 ≤ most_element
unfolding escape_byte
length-stands_for-le form name absolute value short =
    rw (document-told form (stands_for_json name absolute value) (stands_for-told name absolute value))
    (simp length-append (omega (arith, length-boolean-le form absolute, length-name-le form name, length-natural-le form value)))

length-meaning-le : (form : JsonForm) (name : List ℕ) (definition : Definition) → IsShort name → length (document form (meaning_json name definition)) + 1 ≤ most_element
length-meaning-le form name (At offset) short = length-stands_for-le form name false offset short
length-meaning-le form name (Absolute value) short = length-stands_for-le form name true value short

length-definitions-le : (form : JsonForm) (hunk : ObjectHunk) → IsPrintable hunk → length (document form (listed definition_json hunk.definitions)) ≤ 2 + most_element * length hunk.definitions
length-definitions-le form hunk is =
    length-each-le form definition_json most_element HasShortName hunk.definitions (λ d. told-utf8 (meaning_json d.0 d.1) (meaning-told d.0 d.1)) (λ d. length-meaning-le form d.0 d.1) is.definitions

length-unit_hunk-le : (form : JsonForm) (offset : ℕ) (hunk : ObjectHunk) → IsPrintable hunk → length (document form (unit_hunk_json form offset hunk)) + 1 ≤ most_part * hunk_weight hunk
unfolding escape_byte
length-unit_hunk-le form offset hunk is =
    rw (document-told form (unit_hunk_json form offset hunk) (unit_hunk-told form offset hunk))
    (simp (content-members, length-append)
    (omega (
      arith,
      length-debugs-le form hunk.debugs,
      length-definitions-le form hunk is,
      length-kind-le form hunk.kind,
      length-memory-le form hunk.memory,
      length-name-le form hunk.name,
      length-sites-le form hunk is,
      length-natural-le form hunk.size,
      length-content-le form offset hunk.content,
      length-symbols-le form hunk.symbols is.symbols,
    )))

abbrev HasPrintable : List ℕ × ObjectUnit → Type 0
HasPrintable unit = All IsPrintable unit.1.hunks

abbrev weight_at : List ℕ × ObjectUnit → ℕ
weight_at unit = unit_weight unit.1

length-unit-le : (form : JsonForm) (unit : List ℕ × ObjectUnit) → HasPrintable unit → length (document form (unit_json form unit)) + 1 ≤ most_part * weight_at unit
unfolding escape_byte
length-unit-le form unit is =
    let hunks : length (document form (hunks_json (unit_hunk_json form) unit.0 unit.1.hunks)) ≤ 2 + most_part * sum_by hunk_weight unit.1.hunks =
    length-hunks-le form (unit_hunk_json form) hunk_weight IsPrintable unit.0 unit.1.hunks (unit_hunk-utf8 form) (length-unit_hunk-le form) is in
    rw (document-told form (unit_json form unit) (unit-told form unit)) (simp length-append (omega (arith, hunks, length-name-le form unit.1.name)))

-- Units have the same weight without their offsets.
sum_by-units_at : (offsets : List ℕ) (units : List ObjectUnit) → sum_by weight_at (units_at offsets units) ≡ sum_by unit_weight units
sum_by-units_at offsets [] = refl
sum_by-units_at offsets (unit ∷ units) =
    let behind = drop (length unit.hunks) offsets in
    sum_by-cons weight_at (offsets, unit) (units_at behind units) ∙ ap (λ sum. unit_weight unit + sum) (sum_by-units_at behind units) ∙ sym (sum_by-cons unit_weight unit units)

All-units_at : (offsets : List ℕ) (units : List ObjectUnit) → All (λ unit. All IsPrintable unit.hunks) units → All HasPrintable (units_at offsets units)
All-units_at offsets [] all = All-nil HasPrintable
All-units_at offsets (unit ∷ units) all =
    let behind = drop (length unit.hunks) offsets in
    All-cons HasPrintable (offsets, unit) (units_at behind units) (All-head (λ u. All IsPrintable u.hunks) unit units all) (All-units_at behind units (All-tail (λ u. All IsPrintable u.hunks) unit units all))

length-object-le : (form : JsonForm) (offsets : List ℕ) (units : List ObjectUnit) → ArePrintable units → length (document form (object_json form offsets units)) ≤ most_document
unfolding escape_byte
length-object-le form offsets units is =
    let each : length (document form (listed (unit_json form) (units_at offsets units))) ≤ 2 + most_part * sum_by weight_at (units_at offsets units) =
    length-listed-le form (unit_json form) weight_at most_part HasPrintable (units_at offsets units) (λ unit. told-utf8 (unit_json form unit) (unit-told form unit)) (length-unit-le form) (All-units_at offsets units is.each) in
    rw (document-told form (object_json form offsets units) (object-told form offsets units)) (simp (kind_object-document, length-append) (omega (arith, each, sum_by-units_at offsets units, is.few)))

pub object-fits : (form : JsonForm) (offsets : List ℕ) (units : List ObjectUnit) (bytes : List ℕ) → IsObjectOf units bytes → length (document form (object_json form offsets units)) ≤ most_document
object-fits form offsets units bytes file = length-object-le form offsets units (printable-object units bytes file)
