-- How many bytes the lines of what is odd about a file have.
use Rattle.std.proofs.Common.{Vec, ◌≡◌, ℕ, ◌+◌, ◌*◌, ◌%◌, ◌^◌, ◌<◌, ◌≤◌, Bool, true, false, nat_lt, List, [], ◌∷◌, ◌++◌, length, map, reverse, if◌then◌else◌, Option, Some, None, subst, sym, ap, ◌∙◌, arith, length-append}
use Rattle.std.specs.List.{AllByRecursion, flat_map}
use Rattle.std.proofs.lemmas.Grind.{flat_map-append}
use Rattle.std.proofs.lemmas.List.{map-append, reverse-append}
use Rattle.hunk_base.specs.Longwords.{longwords}
use Rattle.hunk_base.proofs.DigitsLemmas.{length-decimal}
use Rattle.hunk_words.specs.Due.{dues_from, dues_read}
use Rattle.hunk_words.specs.FaultTable.{AllPass}
use Rattle.hunk_words.specs.FieldLongwords.{longwords_after}
use Rattle.hunk_words.specs.Files.{Tree, IsFileOf}
use Rattle.hunk_words.specs.Kinds.{Field, Kind, Width, bound, width}
use Rattle.hunk_words.specs.Kinds.Width.{long, half}
use Rattle.hunk_words.specs.Machine.{due}
use Rattle.hunk_words.specs.Reading.{start_of, word_next}
use Rattle.hunk_words.specs.declared.due.Due.{Due}
use Rattle.hunk_words.specs.declared.due.Due.TheVariants.{HunkNumber, ShortCount, ShortHunk}
use Rattle.hunk_words.specs.declared.event.FileKind.{FileKind}
use Rattle.hunk_words.specs.declared.event.FileKind.TheVariants as kind_is
use Rattle.hunk_objects.specs.ProgramUnit.{ObjectUnit}
use Rattle.hunk_loadfile.specs.LoadHunk.{FileHunk}
use Rattle.hunk_files.specs.FileValue.{FileValue, IsOfKind, kind_of_bytes}
use Rattle.hunk_files.specs.FileValue.FileValue.{load_file, object_file}
use Rattle.hunk_files.specs.Watched.{latest_first}
use Rattle.hunk_files.specs.declared.file_decoder.File.{File}
use Rattle.hunk_files.proofs.WatchedLemmas.{length-latest}
use Rattle.hunk_lint.specs.LintText.{lint_lines, longword_line, oddity_front, oddity_number, value_lints}
use Rattle.hunk_lint.specs.Linted.{IsLinted, oddities_of, value_of}
use Rattle.hunk_lint.specs.Oddity.{has_number, has_no_offsets, has_no_references, has_other_size, hunk_named, hunks_named, if_named, ignores_name_bytes, ignores_size_bits, ignores_type_bits, lint_at, lints_of, longword_lints, named_again, names_load_hunk, odd_at, told_again, told_if}
use Rattle.hunk_lint.specs.declared.linted.Linted.{Linted}
use Rattle.hunk_lint.specs.declared.oddity.Oddity.{Oddity}
use Rattle.hunk_lint.specs.declared.oddity.Oddity.TheVariants as oddity_is
use Rattle.hunk_lint.proofs.HunkLintSizeLemmas.{load_lints-fit, object_lints-fit}

-- ---- the longwords of a file have at most 64 bits

abbrev AllFit : List ℕ → Type 0
AllFit ws = AllByRecursion (λ w. w < 2 ^ 64) ws

-- an upper half that waits for its lower one
abbrev IsUpper : Option ℕ → Type 0
IsUpper None = Unit {0}
IsUpper (Some m) = m < 2 ^ 16

bound-le : (w : Width) → bound w ≤ 2 ^ 32
bound-le long = omega arith
bound-le (half h) = omega arith

fit-next : (w : Width) (f : Field) (fs : List Field) → f.number < bound w → AllFit (longwords_after None fs) → (f.number < 2 ^ 16 → AllFit (longwords_after (Some f.number) fs))
    → AllFit (elim w [ long ↦ f.number ∷ longwords_after None fs | half h ↦ longwords_after (Some f.number) fs ])
fit-next long f fs fits whole upper = (omega (arith, fits), whole)
fit-next (half h) f fs fits whole upper = upper fits

fit-all : (o : Option ℕ) (fs : List Field) → IsUpper o → AllPass fs → AllFit (longwords_after o fs)
fit-all None [] is pass = tt
fit-all (Some m) [] is pass = (omega (arith, is), tt)
fit-all None (f ∷ fs) is pass = fit-next (width f.kind) f fs pass.0.fits (fit-all None fs tt pass.1) (λ upper. fit-all (Some f.number) fs upper pass.1)
fit-all (Some m) (f ∷ fs) is pass = (omega (arith, is, pass.0.fits, bound-le (width f.kind)), fit-all None fs tt pass.1)

abbrev DuesFit : List (Due × ℕ) → Type 0
DuesFit ds = AllByRecursion (λ (d : Due × ℕ). d.1 < 2 ^ 64) ds

dues-fit : (stack : List Kind) (ws : List ℕ) → AllFit ws → DuesFit (dues_from stack ws)
dues-fit stack [] all = tt
dues-fit stack (w ∷ ws) all = (all.0, dues-fit (word_next (width (due stack)) stack w) ws all.1)

last-fits : (ds : List (Due × ℕ)) (d : Due × ℕ) → DuesFit ds → d.1 < 2 ^ 64 → DuesFit (ds ++ d ∷ [])
last-fits [] d all one = (one, tt)
last-fits (e ∷ ds) d all one = (all.0, last-fits ds d all.1 one)

reverse-fits : (ds : List (Due × ℕ)) → DuesFit ds → DuesFit (reverse ds)
reverse-fits [] all = tt
reverse-fits (d ∷ ds) all = subst DuesFit (sym (reverse-append (d ∷ []) ds)) (last-fits (reverse ds) d (reverse-fits ds all.1) all.0)

latest-fits : (kind : FileKind) (tree : Tree kind) (ws : List ℕ) → IsFileOf kind tree ws → DuesFit (latest_first kind ws)
latest-fits kind tree ws is = reverse-fits (dues_read kind ws) (dues-fit (start_of kind ∷ []) ws (subst AllFit is.spelled (fit-all None _ tt is.fits)))

-- ---- a line

abbrev IsShort : Oddity → Type 0
IsShort (oddity_is.SameHunk hunk) = hunk < 2 ^ 64
IsShort oddity = Unit {0}

length-front-le : (oddity : Oddity) → length (oddity_front oddity) ≤ 80
length-front-le oddity_is.TypeBits = omega arith
length-front-le oddity_is.HunkName = omega arith
length-front-le oddity_is.SizeBits = omega arith
length-front-le oddity_is.BssSize = omega arith
length-front-le oddity_is.NoOffsets = omega arith
length-front-le (oddity_is.SameHunk hunk) = omega arith
length-front-le oddity_is.NoReferences = omega arith
length-front-le oddity_is.NameBytes = omega arith

length-number-le : (oddity : Oddity) → IsShort oddity → length (oddity_number oddity) ≤ 20
length-number-le (oddity_is.SameHunk hunk) short = length-decimal hunk short
length-number-le oddity short = omega arith

-- the most bytes of a line
abbrev most_line : ℕ
most_line = 150

length-line-le : (place : ℕ) (oddity : Oddity) → place < 2 ^ 64 → IsShort oddity → length (longword_line (lint_at place oddity)) ≤ most_line
length-line-le place oddity fits short = simp length-append (omega (arith, length-decimal place fits, length-front-le oddity, length-number-le oddity short))

-- ---- the lines of a longword

abbrev lines : ℕ → List Oddity → List ℕ
lines place odd = flat_map longword_line (map (lint_at place) odd)

lines-append : (place : ℕ) (some more : List Oddity) → lines place (some ++ more) ≡ lines place some ++ lines place more
lines-append place some more = ap (flat_map longword_line) (map-append (lint_at place) some more) ∙ flat_map-append longword_line (map (lint_at place) some) (map (lint_at place) more)

length-one-le : (place : ℕ) (oddity : Oddity) → place < 2 ^ 64 → IsShort oddity → length (lines place (oddity ∷ [])) ≤ most_line
length-one-le place oddity fits short = omega (arith, length-append (longword_line (lint_at place oddity)) [], length-line-le place oddity fits short)

length-told-le : (place : ℕ) (odd : Bool) (oddity : Oddity) → place < 2 ^ 64 → IsShort oddity → length (lines place (told_if odd oddity)) ≤ most_line
length-told-le place true oddity fits short = length-one-le place oddity fits short
length-told-le place false oddity fits short = omega arith

abbrev HunkFits : Option ℕ → Type 0
HunkFits None = Unit {0}
HunkFits (Some hunk) = hunk < 2 ^ 64

length-again-le : (place : ℕ) (again : Option ℕ) → place < 2 ^ 64 → HunkFits again → length (lines place (told_again again)) ≤ most_line
length-again-le place None fits hunk_fits = omega arith
length-again-le place (Some hunk) fits hunk_fits = length-one-le place (oddity_is.SameHunk hunk) fits hunk_fits

count-fits : (none : Bool) (word : ℕ) → word < 2 ^ 64 → HunkFits (if none then None else Some (word % 2 ^ 16))
count-fits true word fits = tt
count-fits false word fits = omega arith

named-fits : (due : Due) (word : ℕ) → word < 2 ^ 64 → HunkFits (hunk_named due word)
named-fits HunkNumber word fits = fits
named-fits ShortCount word fits = count-fits (nat_lt word (2 ^ 16)) word fits
named-fits ShortHunk word fits = omega (arith, fits)
named-fits due word fits = tt

again-if : (again : Bool) (hunk : ℕ) → hunk < 2 ^ 64 → HunkFits (if again then Some hunk else None)
again-if true hunk fits = fits
again-if false hunk fits = tt

again-fits : (numbers : List ℕ) (hunk : Option ℕ) → HunkFits hunk → HunkFits (if_named numbers hunk)
again-fits numbers None fits = tt
again-fits numbers (Some hunk) fits = again-if (has_number numbers hunk) hunk fits

length-more-le : (place most : ℕ) (some more : List Oddity) → length (lines place some) ≤ most → length (lines place more) ≤ most_line → length (lines place (some ++ more)) ≤ most + most_line
length-more-le place most some more few line = omega (arith, ap (λ xs. length xs) (lines-append place some more), length-append (lines place some) (lines place more), few, line)

length-odd-le : (kind : FileKind) (before : List (Due × ℕ)) (d : Due × ℕ) (place : ℕ) → place < 2 ^ 64 → d.1 < 2 ^ 64 → length (lines place (odd_at kind before d)) ≤ 8 * most_line
length-odd-le kind before d place fits word_fits =
    let type_bits = length-told-le place (ignores_type_bits kind d) oddity_is.TypeBits fits tt in
    let hunk_name = length-more-le place _ _ _ type_bits (length-told-le place (names_load_hunk d) oddity_is.HunkName fits tt) in
    let size_bits = length-more-le place _ _ _ hunk_name (length-told-le place (ignores_size_bits d) oddity_is.SizeBits fits tt) in
    let bss_size = length-more-le place _ _ _ size_bits (length-told-le place (has_other_size kind before d) oddity_is.BssSize fits tt) in
    let no_offsets = length-more-le place _ _ _ bss_size (length-told-le place (has_no_offsets before d) oddity_is.NoOffsets fits tt) in
    let again = length-again-le place (named_again before d) fits (again-fits (hunks_named before) (hunk_named d.0 d.1) (named-fits d.0 d.1 word_fits)) in
    let same_hunk = length-more-le place _ _ _ no_offsets again in
    let no_references = length-more-le place _ _ _ same_hunk (length-told-le place (has_no_references d) oddity_is.NoReferences fits tt) in
    length-more-le place _ _ _ no_references (length-told-le place (ignores_name_bytes before d) oddity_is.NameBytes fits tt)

-- ---- all lines

length-longword_lines-le : (kind : FileKind) (before : List (Due × ℕ)) → length before ≤ 2 ^ 28 → DuesFit before → length (flat_map longword_line (lints_of kind before)) ≤ 8 * most_line * length before
length-longword_lines-le kind [] few fit = omega arith
length-longword_lines-le kind (d ∷ before) few fit =
    let place = length before in
    let earlier = lints_of kind before in
    let more = map (lint_at place) (odd_at kind before d) in
    omega (
      arith,
      ap (λ xs. length xs) (flat_map-append longword_line earlier more),
      length-append (flat_map longword_line earlier) (flat_map longword_line more),
      length-longword_lines-le kind before (omega (arith, few)) fit.1,
      length-odd-le kind before d place (omega (arith, few)) fit.0,
    )

length-longwords-le : (kind : FileKind) (tree : Tree kind) (ws : List ℕ) → IsFileOf kind tree ws → length (flat_map longword_line (longword_lints kind ws)) < 2 ^ 62
length-longwords-le kind tree ws is =
    let few : length (latest_first kind ws) ≤ 2 ^ 28 = omega (arith, length-latest kind ws, is.short_enough) in
    omega (arith, length-longword_lines-le kind (latest_first kind ws) few (latest-fits kind tree ws is), few)

fits : (kind : FileKind) (value : FileValue) (bytes : List ℕ) → IsOfKind kind value bytes → length (lint_lines (longword_lints kind (longwords bytes)) value) < 2 ^ 63
fits kind_is.Object (object_file units) bytes is =
    let lints = flat_map longword_line (longword_lints kind_is.Object (longwords bytes)) in
    omega (arith, length-append lints (value_lints (object_file units)), length-longwords-le kind_is.Object is.is_object.tree (longwords bytes) is.is_object.is_file, object_lints-fit units bytes is)
fits kind_is.Load (load_file hunks) bytes is =
    let lints = flat_map longword_line (longword_lints kind_is.Load (longwords bytes)) in
    omega (arith, length-append lints (value_lints (load_file hunks)), length-longwords-le kind_is.Load is.is_load.tree (longwords bytes) is.is_load.is_file, load_lints-fit hunks bytes is)
fits kind_is.Object (load_file hunks) bytes is = absurd is
fits kind_is.Load (object_file units) bytes is = absurd is

-- The lines about a file have fewer than 2^63 bytes.
pub lint_lines-fit : {A : Type 0} (file : File (Linted (Vec ObjectUnit A) A) (Linted (List FileHunk) A)) (bytes : List ℕ) → IsLinted file bytes → length (lint_lines (oddities_of file) (value_of file)) < 2 ^ 63
lint_lines-fit file bytes is = subst (λ lints. length (lint_lines lints (value_of file)) < 2 ^ 63) (sym is.1) (fits (kind_of_bytes bytes) (value_of file) bytes is.0)
