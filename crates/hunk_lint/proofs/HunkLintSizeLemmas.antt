-- How many bytes the lines about the hunks of a file have.
use Rattle.std.proofs.Common.{ℕ, ◌+◌, ◌*◌, ◌^◌, ◌<◌, ◌≤◌, Bool, true, false, if◌then◌else◌, inl, inr, List, [], ◌∷◌, ◌++◌, length, Option, None, Some, IfSome, option_map, slice_get, codes, subst, sym, arith}
use Rattle.std.specs.Fmt.{decimal}
use Rattle.std.specs.List.{All, enumerate_from, flat_map}
use Rattle.std.specs.Map.{values_of}
use Rattle.std.proofs.lemmas.Fmt.{length-decimal-le_wide}
use Rattle.std.proofs.lemmas.List.{length-append}
use Rattle.std.proofs.lemmas.List.Elements.{All-cons, All-head, All-nil, All-tail, All-weaker}
use Rattle.std.proofs.lemmas.List.Sums.{get_or-le-sum_by}
use Rattle.std.proofs.lemmas.Option.{slice_get_cases}
use Rattle.hunk_base.specs.Longwords.{longwords}
use Rattle.hunk_base.specs.Digits.{eight_digits}
use Rattle.hunk_base.specs.QuotedName.{quoted}
use Rattle.hunk_base.proofs.DigitsLemmas.{length-decimal}
use Rattle.hunk_base.proofs.SitesLemmas.{AreApart-few}
use Rattle.hunk_objects.specs.ProgramUnit.{IsObjectOf, ObjectUnit}
use Rattle.hunk_objects.specs.UnitHunk.{ObjectHunk}
use Rattle.hunk_objects.specs.declared.unit_hunk.Adds.{Adds}
use Rattle.hunk_objects.specs.declared.unit_hunk.Adds.TheVariants.{Hunk, Reference}
use Rattle.hunk_loadfile.specs.LoadFile.{IsLoadOf}
use Rattle.hunk_loadfile.specs.LoadHunk.{FileHunk}
use Rattle.hunk_loadfile.specs.Rules.{IsLoadFile, IsLoadHunk, symbol_longwords}
use Rattle.hunk_loadfile.proofs.RulesReadLemmas.{IsLoadFile-load}
use Rattle.hunk_text.proofs.ListingSizeLemmas.{HasShortName, length-eight_digits, length-le-sum_by, length-lines-le, length-numbered-le, length-parts-le, length-quoted-le, most_line}
use Rattle.hunk_text.proofs.ListingSizeLoadLemmas.{sum_by-weight, weight}
use Rattle.hunk_text.proofs.ListingSizeObjectLemmas.{ArePrintable, IsPrintable, TargetPrints, hunk_weight, length-units-le, unit_weight}
use Rattle.hunk_text.proofs.ListingSizeUnitsLemmas.{printable-object}
use Rattle.hunk_lint.specs.HunkLint.{hunkless_line, hunkless_lints, load_hunk_lints, load_lints, load_site_lints, load_size, object_lints, target_lints, unit_hunk_lints, unit_lints, unit_site_lints, unit_size}
use Rattle.hunk_lint.specs.HunkLintLines.{absent_line, absent_lints, bytes_text, hunk_text, is_odd, is_past, odd_line, odd_lints, past_line, past_lints, place_text, pointed_to, symbol_line, symbol_lints}
use Rattle.hunk_lint.specs.declared.hunk_lint_lines.HunkPlace.{HunkPlace}
use Rattle.hunk_lint.specs.declared.hunk_lint_lines.HunkPlace.TheVariants.{InLoad, InUnit}

-- ---- parts of lines

-- numbers that can be told
abbrev PlacePrints : HunkPlace → Type 0
PlacePrints (InLoad hunk) = hunk < 2 ^ 64
PlacePrints (InUnit unit hunk) = (unit < 2 ^ 64) × (hunk < 2 ^ 64)

abbrev SizePrints : Option ℕ → Type 0
SizePrints size = IfSome size (λ longwords. longwords < 2 ^ 64)

length-hunk_text-le : (number : ℕ) → number < 2 ^ 64 → length (hunk_text number) ≤ 27
length-hunk_text-le number fits = simp length-append (omega (arith, length-decimal number fits))

length-place_text-le : (place : HunkPlace) → PlacePrints place → length (place_text place) ≤ 53
length-place_text-le (InLoad hunk) fits = omega (arith, length-hunk_text-le hunk fits)
length-place_text-le (InUnit unit hunk) fits =
    length-parts-le (codes "unit " ++ decimal unit ++ codes " ") (hunk_text hunk) 26 27 53 (front unit fits.0) (length-hunk_text-le hunk fits.1) (omega arith)
  where
    front : (unit : ℕ) → unit < 2 ^ 64 → length (codes "unit " ++ decimal unit ++ codes " ") ≤ 26
    front unit fits = simp length-append (omega (arith, length-decimal unit fits))

length-bytes-le : (size : ℕ) → size < 2 ^ 64 → length (decimal (4 * size)) ≤ 20
length-bytes-le size fits = length-decimal-le_wide 20 (4 * size) (omega arith) (omega arith) (omega arith)

-- a line, or none
length-lint-le : (told : Bool) (text : List ℕ) (most : ℕ) → length text ≤ most → length (if told then text else []) ≤ most
length-lint-le true text most fits = fits
length-lint-le false text most fits = omega arith

-- ---- a site

-- the most bytes of a line about a site
abbrev most_site_line : ℕ
most_site_line = 2 ^ 8

length-odd_lints-le : (place : HunkPlace) (site : ℕ) → PlacePrints place → length (odd_lints place site) ≤ most_site_line
length-odd_lints-le place site fits = length-lint-le (is_odd site) (odd_line place site) most_site_line (simp length-append (omega (arith, length-place_text-le place fits, length-eight_digits site)))

length-past_line-le : (place : HunkPlace) (site offset target size : ℕ) → PlacePrints place → target < 2 ^ 64 → size < 2 ^ 64 → length (past_line place site offset target size) ≤ most_site_line
length-past_line-le place site offset target size fits target_fits size_fits =
    simp length-append (omega (arith, length-place_text-le place fits, length-eight_digits site, length-eight_digits offset, length-decimal target target_fits, length-bytes-le size size_fits))

length-past_lints-le : (place : HunkPlace) (content : List ℕ) (site target : ℕ) (size : Option ℕ) → PlacePrints place → target < 2 ^ 64 → SizePrints size
    → length (past_lints place content site target size) ≤ most_site_line
length-past_lints-le place content site target None fits target_fits size_fits = omega arith
length-past_lints-le place content site target (Some size) fits target_fits size_fits =
    let offset = pointed_to content site in
    length-lint-le (is_past offset size) (past_line place site offset target size) most_site_line (length-past_line-le place site offset target size fits target_fits size_fits)

length-absent_lints-le : (place : HunkPlace) (site target count : ℕ) → PlacePrints place → target < 2 ^ 64 → count < 2 ^ 64 → length (absent_lints place site target count) ≤ most_site_line
length-absent_lints-le place site target count fits target_fits count_fits =
    length-lint-le _ (absent_line place site target count) most_site_line
    (simp length-append (omega (arith, length-place_text-le place fits, length-eight_digits site, length-decimal target target_fits, length-decimal count count_fits)))

-- the size of one of some hunks, if there is the hunk
size-prints : {X : Type 0} (size : X → ℕ) (xs : List X) (number : ℕ) → All (λ x. size x < 2 ^ 64) xs → SizePrints (option_map size (slice_get xs number))
size-prints size xs number all = elim (slice_get_cases xs number).1 [
  | inl found ↦ subst (λ item. SizePrints (option_map size item)) (sym found.2) (subst (λ x. size x < 2 ^ 64) found.3 (all number found.0 found.1))
  | inr past ↦ subst (λ item. SizePrints (option_map size item)) (sym past.1) tt
]

-- ---- a symbol

length-symbol_lints-le : (place : HunkPlace) (size : ℕ) (symbol : List ℕ × ℕ) → PlacePrints place → size < 2 ^ 64 → HasShortName symbol → length (symbol_lints place size symbol) ≤ most_line
length-symbol_lints-le place size symbol fits size_fits short = length-lint-le (is_past symbol.1 size) (symbol_line place size symbol) most_line (line_le (quoted symbol.0) (length-quoted-le symbol.0))
  where
    line_le : (name : List ℕ) → length name ≤ 4 * length symbol.0 + 2
        → length (place_text place ++ codes "symbol " ++ name ++ codes " " ++ eight_digits symbol.1 ++ codes " is past the hunk" ++ bytes_text size ++ 10 ∷ []) ≤ most_line
    line_le name few = simp length-append (omega (arith, length-place_text-le place fits, few, short, length-eight_digits symbol.1, length-bytes-le size size_fits))

-- ---- load files

length-load_site_lints-le : (hunks : List FileHunk) (place : HunkPlace) (content : List ℕ) (site : ℕ × ℕ) → PlacePrints place → site.1 < 2 ^ 64 → SizePrints (load_size hunks site.1)
    → length (load_site_lints hunks place content site) ≤ most_line
length-load_site_lints-le hunks place content site fits target_fits size_fits =
    omega (
      arith,
      length-append (odd_lints place site.0) (past_lints place content site.0 site.1 (load_size hunks site.1)),
      length-odd_lints-le place site.0 fits,
      length-past_lints-le place content site.0 site.1 (load_size hunks site.1) fits target_fits size_fits,
    )

-- a hunk of a load file of these hunks
record IsTold (count : ℕ) (hunk : FileHunk) : Type 0 where
  valid : IsLoadHunk count hunk
  size : hunk.size < 2 ^ 64

abbrev SmallHunks : List FileHunk → Type 0
SmallHunks hunks = All (λ (hunk : FileHunk). hunk.size < 2 ^ 64) hunks

length-load_hunk_lints-le : (hunks : List FileHunk) (number : ℕ) (hunk : FileHunk) → length hunks < 2 ^ 64 → SmallHunks hunks → number < 2 ^ 64 → IsTold (length hunks) hunk
    → length (load_hunk_lints hunks (number, hunk)) ≤ most_line * weight hunk
length-load_hunk_lints-le hunks number hunk few small fits is =
    let place = InLoad number in
    let sites = load_site_lints hunks place hunk.content in
    let symbols = symbol_lints place hunk.size in
    omega (
      arith,
      length-append (flat_map sites hunk.sites.entries) (flat_map symbols hunk.symbols),
      length-lines-le (λ site. site.1 < length hunks) sites hunk.sites.entries
          (λ site among. length-load_site_lints-le hunks place hunk.content site fits (omega arith) (size-prints (λ (h : FileHunk). h.size) hunks site.1 small)) is.valid.targets,
      length-lines-le HasShortName symbols hunk.symbols (λ symbol short. length-symbol_lints-le place hunk.size symbol fits is.size short) is.valid.names,
      AreApart-few hunk.sites is.valid.typed.apart,
      is.valid.limit,
      length-le-sum_by symbol_longwords hunk.symbols (λ symbol. omega arith),
    )

length-load_lints-lt : (hunks : List FileHunk) → IsLoadFile hunks → length (load_lints hunks) < 2 ^ 62
length-load_lints-lt hunks is =
    let few : length hunks ≤ 65535 = is.few in
    let small : SmallHunks hunks = λ k d within. omega (arith, get_or-le-sum_by (λ (hunk : FileHunk). hunk.size) hunks k d within, is.small) in
    let told : All (IsTold (length hunks)) hunks = λ k d within. record { valid = is.each k d within; size = small k d within } in
    omega (
      arith,
      length-numbered-le (IsTold (length hunks)) (load_hunk_lints hunks) weight 0 hunks (λ number hunk. length-load_hunk_lints-le hunks number hunk (omega arith) small) (omega arith) told,
      sum_by-weight hunks,
      is.small,
      is.carries,
    )

-- The lines about a load file have fewer than 2^62 bytes.
pub load_lints-fit : (hunks : List FileHunk) (bytes : List ℕ) → IsLoadOf hunks bytes → length (load_lints hunks) < 2 ^ 62
load_lints-fit hunks bytes file = length-load_lints-lt hunks (IsLoadFile-load hunks (longwords bytes) file.is_load)

-- ---- object files

length-target_lints-le : (hunks : List ObjectHunk) (place : HunkPlace) (content : List ℕ) (site : ℕ) (adds : Adds) → PlacePrints place → length hunks < 2 ^ 64 → All IsPrintable hunks → TargetPrints adds
    → length (target_lints hunks place content site adds) ≤ 2 * most_site_line
length-target_lints-le hunks place content site (Reference index) fits few all prints = omega arith
length-target_lints-le hunks place content site (Hunk target) fits few all prints =
    let small : All (λ (hunk : ObjectHunk). hunk.size < 2 ^ 64) hunks = All-weaker IsPrintable (λ (hunk : ObjectHunk). hunk.size < 2 ^ 64) (λ hunk is. is.size) hunks all in
    omega (
      arith,
      length-append (past_lints place content site target (unit_size hunks target)) (absent_lints place site target (length hunks)),
      length-past_lints-le place content site target (unit_size hunks target) fits prints (size-prints (λ (h : ObjectHunk). h.size) hunks target small),
      length-absent_lints-le place site target (length hunks) fits prints few,
    )

length-unit_site_lints-le : (hunks : List ObjectHunk) (place : HunkPlace) (content : List ℕ) (site : ℕ × Adds) → PlacePrints place → length hunks < 2 ^ 64 → All IsPrintable hunks → TargetPrints site.1
    → length (unit_site_lints hunks place content site) ≤ most_line
length-unit_site_lints-le hunks place content site fits few all prints =
    omega (
      arith,
      length-append (odd_lints place site.0) (target_lints hunks place content site.0 site.1),
      length-odd_lints-le place site.0 fits,
      length-target_lints-le hunks place content site.0 site.1 fits few all prints,
    )

-- what holds of each value holds of the value of each entry
All-from_values : {X : Type 0} (P : X → Type 0) (entries : List (ℕ × X)) → All P (values_of entries) → All (λ entry. P entry.1) entries
All-from_values P [] all = All-nil (λ entry. P entry.1)
All-from_values P (entry ∷ entries) all = All-cons (λ e. P e.1) entry entries (All-head P entry.1 (values_of entries) all) (All-from_values P entries (All-tail P entry.1 (values_of entries) all))

length-unit_hunk_lints-le : (hunks : List ObjectHunk) (unit number : ℕ) (hunk : ObjectHunk) → length hunks < 2 ^ 64 → All IsPrintable hunks → unit < 2 ^ 64 → number < 2 ^ 64 → IsPrintable hunk
    → length (unit_hunk_lints hunks unit (number, hunk)) ≤ most_line * hunk_weight hunk
length-unit_hunk_lints-le hunks unit number hunk few all unit_fits fits is =
    let place = InUnit unit number in
    let sites = unit_site_lints hunks place hunk.content in
    let symbols = symbol_lints place hunk.size in
    omega (
      arith,
      length-append (flat_map sites hunk.sites.entries) (flat_map symbols hunk.symbols),
      length-lines-le (λ site. TargetPrints site.1) sites hunk.sites.entries (λ site prints. length-unit_site_lints-le hunks place hunk.content site (unit_fits, fits) few all prints)
          (All-from_values TargetPrints hunk.sites.entries is.targets),
      length-lines-le HasShortName symbols hunk.symbols (λ symbol short. length-symbol_lints-le place hunk.size symbol (unit_fits, fits) is.size short) is.symbols,
    )

-- a unit with no more lines than there may be in a file
record IsToldUnit (unit : ObjectUnit) : Type 0 where
  each : All IsPrintable unit.hunks
  few : unit_weight unit ≤ 2 ^ 30

length-hunkless_lints-le : (unit count : ℕ) → unit < 2 ^ 64 → length (hunkless_lints unit count) ≤ most_line
length-hunkless_lints-le unit count fits = length-lint-le _ (hunkless_line unit) most_line (simp length-append (omega (arith, length-decimal unit fits)))

length-unit_lints-le : (number : ℕ) (unit : ObjectUnit) → number < 2 ^ 64 → IsToldUnit unit → length (unit_lints (number, unit)) ≤ most_line * unit_weight unit
length-unit_lints-le number unit fits is =
    let few : length unit.hunks ≤ 2 ^ 30 = omega (arith, is.few, length-le-sum_by hunk_weight unit.hunks (λ hunk. omega arith)) in
    length-parts-le (hunkless_lints number (length unit.hunks)) (flat_map (unit_hunk_lints unit.hunks number) (enumerate_from 0 unit.hunks)) _ _ _
    (length-hunkless_lints-le number (length unit.hunks) fits)
    (length-numbered-le IsPrintable (unit_hunk_lints unit.hunks number) hunk_weight 0 unit.hunks
    (λ place hunk place_fits prints. length-unit_hunk_lints-le unit.hunks number place hunk (omega arith) is.each fits place_fits prints) (omega arith) is.each)
    (omega arith)

length-object_lints-lt : (units : List ObjectUnit) → ArePrintable units → length (object_lints units) < 2 ^ 62
length-object_lints-lt units is =
    let told : All IsToldUnit units = λ k d within. record { each = is.each k d within; few = omega (arith, get_or-le-sum_by unit_weight units k d within, is.few) } in
    let few : length units ≤ 2 ^ 30 = omega (arith, length-units-le units, is.few) in
    omega (arith, is.few, length-numbered-le IsToldUnit unit_lints unit_weight 0 units length-unit_lints-le (omega arith) told)

-- The lines about an object file have fewer than 2^62 bytes.
pub object_lints-fit : (units : List ObjectUnit) (bytes : List ℕ) → IsObjectOf units bytes → length (object_lints units) < 2 ^ 62
object_lints-fit units bytes file = length-object_lints-lt units (printable-object units bytes file)
