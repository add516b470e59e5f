-- The units of an object file can be printed, and its listing has fewer than 2^64 bytes.
use Rattle.std.proofs.Common.{ℕ, ◌+◌, ◌*◌, ◌^◌, ◌<◌, ◌≤◌, List, [], ◌∷◌, length, map, sum_by, ◌==◌, None, ap, subst, arith}
use Rattle.std.specs.BTreeMap.{insert_entry}
use Rattle.std.specs.List.{All, AllByRecursion, position_or_len}
use Rattle.std.specs.Map.{values_of}
use Rattle.std.specs.Ordering.{match_ordering, nat_cmp}
use Rattle.std.specs.declared.cmp.Ordering.{Ordering}
use Rattle.std.specs.declared.cmp.Ordering.TheVariants.{Less, Equal, Greater}
use Rattle.std.proofs.lemmas.List.{length-map, length-take}
use Rattle.std.proofs.lemmas.List.Elements.{All-from_recursion, All-map, All-nil, All-weaker}
use Rattle.std.proofs.lemmas.List.Sums.{sum_by-cons}
use Rattle.std.proofs.lemmas.Map.Views.{All-values-insert_entry}
use Rattle.hunk_words.specs.Files.{IsFileOf}
use Rattle.hunk_base.specs.Longwords.{longwords}
use Rattle.hunk_base.specs.Name.{bytes_of, name_of}
use Rattle.hunk_words.specs.Spelling.{object_spelling}
use Rattle.hunk_words.specs.Trees.{ObjectTree}
use Rattle.hunk_words.specs.Values.{Adds, Hunk, Part, object_value}
use Rattle.hunk_words.specs.Values.Adds.{to_hunk, to_reference}
use Rattle.hunk_words.specs.declared.event.FileKind.TheVariants.{Object}
use Rattle.hunk_objects.specs.ProgramUnit.{IsObjectOf, ObjectUnit, hunk_count, object_unit, object_units}
use Rattle.hunk_objects.specs.UnitHunk.{adds_of, definition_of, object_hunk, with_sites}
use Rattle.hunk_objects.specs.declared.unit_hunk.Adds.{Adds as UnitAdds}
use Rattle.hunk_objects.specs.declared.unit_hunk.Definition.{Definition}
use Rattle.hunk_loadfile.proofs.LoadFileSpellingLemmas.{long_count, long_count-le}
use Rattle.hunk_loadfile.proofs.LongwordWriterLemmas.{length-bytes_of}
use Rattle.hunk_text.specs.Laws.{ObjectListingFits}
use Rattle.hunk_text.proofs.ListingSizeLemmas.{HasShortName, IsCounted}
use Rattle.hunk_text.proofs.ListingSizeObjectLemmas.{ArePrintable, IsPrintable, IsShort, TargetPrints, hunk_weight, length-object_listing-lt, length-units-le, sum_by-hunk_count-le, unit_weight}
use Rattle.hunk_text.proofs.ListingSizeTablesLemmas.{DebugFits, NameFits, NamedFits, SiteFits, TargetFits}
use Rattle.hunk_text.proofs.ListingSizeTreeLemmas.{HunkFits, PartFits, PartsFit, ended-object, hunk_lines, part_lines}

-- a name has no more bytes than its longwords
length-name_of-le : (ws : List ℕ) → length (name_of ws) ≤ 4 * length ws
length-name_of-le ws = omega (arith, length-bytes_of ws, length-take (position_or_len (λ byte. byte == 0) (bytes_of ws)) (bytes_of ws))

-- ---- the sites of a hunk

target-prints : (adds : Adds) → TargetFits adds → TargetPrints (adds_of adds)
target-prints (to_hunk number) fits = omega arith
target-prints (to_reference index) fits = tt

targets-print : (entries : List (ℕ × UnitAdds)) (sites : List (ℕ × Adds)) → AllByRecursion SiteFits sites → All TargetPrints (values_of entries) → All TargetPrints (values_of (with_sites entries sites))
targets-print entries [] fit all = all
targets-print entries (site ∷ sites) fit all =
    targets-print (insert_entry nat_cmp entries site.0 (adds_of site.1)) sites fit.1 (All-values-insert_entry nat_cmp site.0 (adds_of site.1) TargetPrints entries all (target-prints site.1 fit.0))

length-insert_entry-le : {K X : Type 0} (cmp : K → K → Ordering) (es : List (K × X)) (k : K) (v : X) → length (insert_entry cmp es k v) ≤ length es + 1
length-insert_entry-le cmp [] k v = omega arith
length-insert_entry-le cmp (e ∷ es) k v = go (cmp k e.0) (length-insert_entry-le cmp es k v)
  where
    go : (order : Ordering) → length (insert_entry cmp es k v) ≤ length es + 1 → length (match_ordering order ((k, v) ∷ e ∷ es) ((e.0, v) ∷ es) (e ∷ insert_entry cmp es k v)) ≤ length (e ∷ es) + 1
    go Less few = omega arith
    go Equal few = omega arith
    go Greater few = omega arith

length-with_sites-le : (entries : List (ℕ × UnitAdds)) (sites : List (ℕ × Adds)) → length (with_sites entries sites) ≤ length entries + length sites
length-with_sites-le entries [] = omega arith
length-with_sites-le entries (site ∷ sites) =
    omega (arith, length-with_sites-le (insert_entry nat_cmp entries site.0 (adds_of site.1)) sites, length-insert_entry-le nat_cmp entries site.0 (adds_of site.1))

-- ---- hunks and units

printable-hunk : (h : Hunk) → HunkFits h → IsPrintable (object_hunk h)
printable-hunk h fits =
    let tables = fits.tables in
    let short : (ws : List ℕ) → NameFits ws → IsShort (name_of ws) = λ ws few. omega (arith, length-name_of-le ws) in
    record {
      size = omega (arith, fits.size);
      targets = targets-print [] h.tables.sites tables.sites (All-nil TargetPrints);
      references = All-map IsShort name_of h.tables.references (All-weaker NameFits (λ ws. IsShort (name_of ws)) short h.tables.references (All-from_recursion NameFits h.tables.references tables.references));
      definitions = All-map HasShortName (λ d. (name_of d.0, definition_of d.1)) h.tables.definitions
          (All-weaker NamedFits (λ d. IsShort (name_of d.0)) (λ d. short d.0) h.tables.definitions (All-from_recursion NamedFits h.tables.definitions tables.definitions));
      symbols = All-map HasShortName (λ s. (name_of s.0, s.1)) h.tables.symbols
          (All-weaker NamedFits (λ s. IsShort (name_of s.0)) (λ s. short s.0) h.tables.symbols (All-from_recursion NamedFits h.tables.symbols tables.symbols));
      debugs = All-weaker DebugFits IsCounted (λ words few. omega arith) h.tables.debugs (All-from_recursion DebugFits h.tables.debugs tables.debugs);
    }

-- up to four bytes for each longword
sum_by-map-le : {X Y : Type 0} (f : X → ℕ) (g : Y → ℕ) (value : Y → X) → ((y : Y) → f (value y) ≤ 4 * g y) → (ys : List Y) → sum_by f (map value ys) ≤ 4 * sum_by g ys
sum_by-map-le f g value few [] = omega arith
sum_by-map-le f g value few (y ∷ ys) = omega (arith, few y, sum_by-map-le f g value few ys, sum_by-cons f (value y) (map value ys), sum_by-cons g y ys)

hunk_weight-le : (h : Hunk) → hunk_weight (object_hunk h) ≤ 4 * hunk_lines h
hunk_weight-le h =
    omega (
      arith,
      length-name_of-le h.name,
      length-bytes_of h.content,
      length-with_sites-le [] h.tables.sites,
      length-map {B = List ℕ × Definition} h.tables.definitions (λ d. (name_of d.0, definition_of d.1)),
      length-map {B = List ℕ × ℕ} h.tables.symbols (λ s. (name_of s.0, s.1)),
    )

unit_weight-le : (p : Part) → unit_weight (object_unit p) ≤ 4 * part_lines p
unit_weight-le p = omega (arith, length-name_of-le p.name, sum_by-map-le hunk_weight hunk_lines object_hunk hunk_weight-le p.hunks)

printable-units : (ps : List Part) (most : ℕ) → most ≤ 2 ^ 28 → PartsFit ps most → ArePrintable (object_units ps)
printable-units ps most short fits = record {
  each = All-map (λ unit. All IsPrintable unit.hunks) object_unit ps
      (All-weaker PartFits (λ p. All IsPrintable (object_unit p).hunks)
      (λ p all. All-map IsPrintable object_hunk p.hunks (All-weaker HunkFits (λ h. IsPrintable (object_hunk h)) printable-hunk p.hunks (All-from_recursion HunkFits p.hunks all)))
      ps (All-from_recursion PartFits ps fits.parts));
  few = omega (arith, fits.count, sum_by-map-le unit_weight part_lines object_unit unit_weight-le ps);
}

-- ---- files

printable-value : (t : ObjectTree) (ws : List ℕ) → IsFileOf Object t ws → ArePrintable (object_units (object_value t))
printable-value t ws file =
    printable-units (object_value t) (long_count (object_spelling t)) (omega (arith, long_count-le None (object_spelling t), ap length file.spelled, file.short_enough)) (ended-object t file.fits)

pub printable-object : (units : List ObjectUnit) (bytes : List ℕ) → IsObjectOf units bytes → ArePrintable units
printable-object units bytes file = subst ArePrintable file.is_object.value (printable-value file.is_object.tree (longwords bytes) file.is_object.is_file)

-- The numbers of units and hunks in the first line have at most 64 bits.
pub unit_count-fits : (units : List ObjectUnit) (bytes : List ℕ) → IsObjectOf units bytes → length units < 2 ^ 64
unit_count-fits units bytes file = omega (arith, length-units-le units, (printable-object units bytes file).few)

pub hunk_count-fits : (units : List ObjectUnit) (bytes : List ℕ) → IsObjectOf units bytes → sum_by hunk_count units < 2 ^ 64
hunk_count-fits units bytes file = omega (arith, sum_by-hunk_count-le units, (printable-object units bytes file).few)

pub object_listing-fits : ObjectListingFits
object_listing-fits units bytes file = length-object_listing-lt units (printable-object units bytes file)
