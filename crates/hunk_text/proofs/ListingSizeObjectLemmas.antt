-- How many bytes the listing of an object file has.
use Rattle.std.proofs.Common.{ℕ, ◌+◌, ◌*◌, ◌^◌, ◌<◌, ◌≤◌, inl, inr, List, [], ◌∷◌, ◌++◌, length, get_or, sum_by, codes, subst, sym, arith}
use Rattle.std.specs.List.{All, enumerate_from, flat_map}
use Rattle.std.specs.Map.{values_of}
use Rattle.std.proofs.lemmas.Bool.{cases_lt}
use Rattle.std.proofs.lemmas.List.{get_or_past, length-append}
use Rattle.std.proofs.lemmas.List.Elements.{All-cons, All-get_or, All-head, All-nil, All-tail}
use Rattle.std.proofs.lemmas.List.Sums.{get_or-le-sum_by, sum_by-le-sum_by}
use Rattle.hunk_objects.specs.ProgramUnit.{ObjectUnit, hunk_count}
use Rattle.hunk_base.specs.Name.{most_name}
use Rattle.hunk_objects.specs.UnitHunk.{ObjectHunk}
use Rattle.hunk_objects.specs.declared.unit_hunk.Adds.{Adds}
use Rattle.hunk_objects.specs.declared.unit_hunk.Adds.TheVariants.{Hunk, Reference}
use Rattle.hunk_objects.specs.declared.unit_hunk.Definition.{Definition}
use Rattle.hunk_objects.specs.declared.unit_hunk.Definition.TheVariants.{At, Absolute}
use Rattle.hunk_text.specs.Listing.{adds_text, debug_lines, definition_line, definition_text, hunk_front, object_line, object_listing, site_line, unit_hunk_line, unit_hunk_lines, unit_line, unit_lines, unit_site_lines}
use Rattle.hunk_base.specs.Text.{line}
use Rattle.hunk_base.specs.QuotedName.{quoted}
use Rattle.hunk_base.proofs.DigitsLemmas.{length-decimal}
use Rattle.hunk_base.proofs.QuotedNameLemmas.{length-escaped_all-le}
use Rattle.hunk_text.proofs.ListingSizeLemmas.{HasShortName, IsCounted, length-adds_hunk-le, length-debug_lines-le, length-eight_digits, length-hunk_front-le, length-le-sum_by, length-lines-le, length-numbered-le, length-parts-le, length-quoted-le, length-site_line-le, most_front, most_line}

-- ---- what can be printed

abbrev pub IsShort : List ℕ → Type 0
IsShort name = length name ≤ most_name

-- the number of a hunk can be printed
abbrev pub TargetPrints : Adds → Type 0
TargetPrints (Hunk number) = number < 2 ^ 64
TargetPrints (Reference index) = Unit {0}

-- a hunk with numbers of 64 bits, and with names in its tables that are no longer than a symbol's
pub record IsPrintable (hunk : ObjectHunk) : Type 0 where
  pub size : hunk.size < 2 ^ 64
  pub targets : All TargetPrints (values_of hunk.sites.entries)
  pub references : All IsShort hunk.references
  pub definitions : All HasShortName hunk.definitions
  pub symbols : All HasShortName hunk.symbols
  pub debugs : All IsCounted hunk.debugs

-- the lines of a hunk, and the bytes of its name and of its content
abbrev pub hunk_weight : ObjectHunk → ℕ
hunk_weight hunk = 1 + length hunk.name + length hunk.content + length hunk.sites.entries + length hunk.definitions + length hunk.symbols + length hunk.debugs

-- the lines of a unit, and the bytes of its name and of those of its hunks, and of their contents
abbrev pub unit_weight : ObjectUnit → ℕ
unit_weight unit = 1 + length unit.name + sum_by hunk_weight unit.hunks

-- units with no more than 2^30 lines and bytes of contents, and of hunks that can be printed
pub record ArePrintable (units : List ObjectUnit) : Type 0 where
  pub each : All (λ unit. All IsPrintable unit.hunks) units
  pub few : sum_by unit_weight units ≤ 2 ^ 30

-- ---- a hunk

-- the end of its line, with its name
length-named-le : (front name : List ℕ) → length front ≤ most_front → length (line (front ++ codes " " ++ quoted name)) ≤ most_line * (1 + length name)
length-named-le front name short = simp length-append (omega (arith, length-escaped_all-le name))

length-unit_hunk_line-le : (number : ℕ) (hunk : ObjectHunk) → number < 2 ^ 64 → IsPrintable hunk → length (unit_hunk_line number hunk) ≤ most_line * (1 + length hunk.name)
length-unit_hunk_line-le number hunk fits is =
    length-named-le (hunk_front number hunk.kind hunk.memory hunk.size) hunk.name (length-hunk_front-le number hunk.kind hunk.memory hunk.size fits is.size)

-- the name of a reference, or none
pub short-reference : (references : List (List ℕ)) (index : ℕ) → All IsShort references → IsShort (get_or references index [])
short-reference references index short = elim (cases_lt index (length references)) [
  | inl within ↦ All-get_or IsShort references index [] within short
  | inr past ↦ subst IsShort (sym (get_or_past references index [] past)) (omega arith)
]

length-adds_text-le : (references : List (List ℕ)) (adds : Adds) → All IsShort references → TargetPrints adds → length (adds_text references adds) ≤ 2 ^ 28
length-adds_text-le references (Hunk number) short fits = omega (arith, length-adds_hunk-le number fits)
length-adds_text-le references (Reference index) short fits = omega (arith, length-quoted-le (get_or references index []), short-reference references index short)

All-from_values : {X : Type 0} (P : X → Type 0) (entries : List (ℕ × X)) → All P (values_of entries) → All (λ entry. P entry.1) entries
All-from_values P [] all = All-nil (λ entry. P entry.1)
All-from_values P (entry ∷ entries) all = All-cons (λ e. P e.1) entry entries (All-head P entry.1 (values_of entries) all) (All-from_values P entries (All-tail P entry.1 (values_of entries) all))

length-unit_site_lines-le : (hunk : ObjectHunk) → IsPrintable hunk → length (unit_site_lines hunk) ≤ most_line * length hunk.sites.entries
length-unit_site_lines-le hunk is =
    length-lines-le (λ site. TargetPrints site.1) (λ site. site_line site.0 (adds_text hunk.references site.1)) hunk.sites.entries
    (λ site fits. length-site_line-le site.0 (adds_text hunk.references site.1) (length-adds_text-le hunk.references site.1 is.references fits))
    (All-from_values TargetPrints hunk.sites.entries is.targets)

length-definition_text-le : (definition : Definition) → length (definition_text definition) ≤ 12
length-definition_text-le (At offset) = omega (arith, length-eight_digits offset)
length-definition_text-le (Absolute number) = omega (arith, length-eight_digits number)

length-definition_line-le : (definition : List ℕ × Definition) → HasShortName definition → length (definition_line definition) ≤ most_line
length-definition_line-le definition short = simp length-append (omega (arith, length-escaped_all-le definition.0, length-definition_text-le definition.1))

length-unit_hunk_lines-le : (number : ℕ) (hunk : ObjectHunk) → number < 2 ^ 64 → IsPrintable hunk → length (unit_hunk_lines (number, hunk)) ≤ most_line * hunk_weight hunk
length-unit_hunk_lines-le number hunk fits is =
    let first = unit_hunk_line number hunk in
    let sites = unit_site_lines hunk in
    let definitions = flat_map definition_line hunk.definitions in
    let debugs = debug_lines hunk.symbols hunk.debugs in
    length-parts-le (first ++ sites ++ definitions) debugs _ _ _
    (length-parts-le (first ++ sites) definitions _ _ (most_line * (1 + length hunk.name + length hunk.sites.entries + length hunk.definitions))
    (length-parts-le first sites _ _ (most_line * (1 + length hunk.name + length hunk.sites.entries)) (length-unit_hunk_line-le number hunk fits is) (length-unit_site_lines-le hunk is) (omega arith))
    (length-lines-le HasShortName definition_line hunk.definitions length-definition_line-le is.definitions)
    (omega arith))
    (length-debug_lines-le hunk.symbols hunk.debugs is.symbols is.debugs)
    (omega arith)

-- ---- a unit

length-unit_line-le : (number : ℕ) (name : List ℕ) → number < 2 ^ 64 → length (unit_line number name) ≤ most_line * (1 + length name)
length-unit_line-le number name fits = simp length-append (omega (arith, length-decimal number fits, length-escaped_all-le name))

-- a unit with no more lines than there may be in a file
record IsPrintableUnit (unit : ObjectUnit) : Type 0 where
  each : All IsPrintable unit.hunks
  few : unit_weight unit ≤ 2 ^ 30

length-unit_lines-le : (number : ℕ) (unit : ObjectUnit) → number < 2 ^ 64 → IsPrintableUnit unit → length (unit_lines (number, unit)) ≤ most_line * unit_weight unit
length-unit_lines-le number unit fits is =
    length-parts-le (unit_line number unit.name) (flat_map unit_hunk_lines (enumerate_from 0 unit.hunks)) _ _ _
    (length-unit_line-le number unit.name fits)
    (length-numbered-le IsPrintable unit_hunk_lines hunk_weight 0 unit.hunks length-unit_hunk_lines-le (omega (arith, is.few, length-le-sum_by hunk_weight unit.hunks (λ hunk. omega arith))) is.each)
    (omega arith)

-- ---- a file

hunk_count-le : (unit : ObjectUnit) → hunk_count unit ≤ unit_weight unit
hunk_count-le unit = omega (arith, length-le-sum_by hunk_weight unit.hunks (λ hunk. omega arith))

pub length-units-le : (units : List ObjectUnit) → length units ≤ sum_by unit_weight units
length-units-le units = length-le-sum_by unit_weight units (λ unit. omega arith)

pub sum_by-hunk_count-le : (units : List ObjectUnit) → sum_by hunk_count units ≤ sum_by unit_weight units
sum_by-hunk_count-le units = sum_by-le-sum_by hunk_count unit_weight units hunk_count-le

length-object_line-le : (units hunks : ℕ) → units < 2 ^ 64 → hunks < 2 ^ 64 → length (object_line units hunks) ≤ 68
length-object_line-le units hunks units_fit hunks_fit = simp length-append (omega (arith, length-decimal units units_fit, length-decimal hunks hunks_fit))

pub length-object_listing-lt : (units : List ObjectUnit) → ArePrintable units → length (object_listing units) < 2 ^ 64
length-object_listing-lt units is =
    let all : All IsPrintableUnit units = λ k d within. record { each = is.each k d within; few = omega (arith, get_or-le-sum_by unit_weight units k d within, is.few) } in
    let few : length units ≤ 2 ^ 30 = omega (arith, length-units-le units, is.few) in
    omega (
      arith,
      length-parts-le (object_line (length units) (sum_by hunk_count units)) (flat_map unit_lines (enumerate_from 0 units)) 68 (most_line * 2 ^ 30) (68 + most_line * 2 ^ 30)
          (length-object_line-le (length units) (sum_by hunk_count units) (omega arith) (omega (arith, sum_by-hunk_count-le units, is.few)))
          (omega (arith, is.few, length-numbered-le IsPrintableUnit unit_lines unit_weight 0 units length-unit_lines-le (omega arith) all))
          (omega arith),
    )
