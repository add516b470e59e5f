-- The longwords of a load file are those of hunks that obey the rules for load files.
use Rattle.std.proofs.Common.{◌≡◌, ℕ, suc, ◌*◌, ◌^◌, ◌<◌, ◌≤◌, ◌==◌, inl, inr, true, nat_le, ◌&&◌, None, List, [], ◌∷◌, length, map, sum_by, refl, ap, sym, subst, arith}
use Rattle.std.specs.BTreeMap.{insert_entry}
use Rattle.std.specs.List.{All, AllByRecursion, position_or_len}
use Rattle.std.specs.Ordering.{match_ordering, nat_cmp}
use Rattle.std.specs.declared.cmp.Ordering.{Ordering}
use Rattle.std.specs.declared.cmp.Ordering.TheVariants.{Less, Equal, Greater}
use Rattle.std.proofs.lemmas.Bool.{and_parts, leb-true}
use Rattle.std.proofs.lemmas.Bool.Decides.{leb_tells}
use Rattle.std.proofs.lemmas.List.{length-map, length-take}
use Rattle.std.proofs.lemmas.List.Elements.{All-from_recursion}
use Rattle.std.proofs.lemmas.List.Sums.{sum_by-cons}
use Rattle.hunk_words.specs.Files.{IsFileOf}
use Rattle.hunk_base.specs.Name.{bytes_of, longword_count, most_name, name_of}
use Rattle.hunk_words.specs.SiteContext.{Has, SameSites}
use Rattle.hunk_words.specs.SiteRules.{all_apart, apart}
use Rattle.hunk_base.specs.Sites.{Meets, SharesByte, StandFrom}
use Rattle.hunk_words.specs.Spelling.{load_hunks, load_spelling}
use Rattle.hunk_words.specs.Trees.{LoadHunkTree, LoadTree}
use Rattle.hunk_words.specs.Values.{Adds, Hunk}
use Rattle.hunk_words.specs.Values.Adds.{to_hunk, to_reference}
use Rattle.hunk_words.specs.declared.event.FileKind.TheVariants.{Load}
use Rattle.hunk_base.specs.declared.fault.Reason.TheVariants.{HunkTable}
use Rattle.hunk_words.specs.declared.kinds.HunkKind.{HunkKind}
use Rattle.hunk_words.specs.declared.kinds.HunkKind.TheVariants.{Code, Data, Bss}
use Rattle.hunk_words.proofs.FaultTableLemmas.{reject_unless-none}
use Rattle.hunk_base.proofs.NameLemmas.{bytes_of-lt, name_of-bytes}
use Rattle.hunk_base.proofs.SitesLemmas.{StandFrom-insert_entry, target_at-insert_entry}
use Rattle.hunk_words.proofs.TakerLemmas.{SameSites-more, SameSites-none}
use Rattle.hunk_loadfile.specs.LoadFile.{IsLoad, file_hunk, load_hunk_value, load_value, with_sites}
use Rattle.hunk_loadfile.specs.LoadHunk.{FileHunk}
use Rattle.hunk_loadfile.specs.Rules.{IsLoadFile, IsLoadHunk, IsLongword, IsTypedSymbol, carried_longwords, carried_by, most_content, size_of, symbol_longwords}
use Rattle.hunk_loadfile.proofs.LongwordWriterLemmas.{length-bytes_of}
use Rattle.hunk_loadfile.proofs.LoadFileSpellingLemmas.{ContentFits, HunkFits, SitesFit, SymbolFits, hunks-fit, long_count, long_count-le, sizes-fit, symbol_count, told_count, value_of}

-- ---- sites

-- a site that is apart from those seen shares no byte with any of them
apart-shares : (o p : ℕ) → apart o p ≡ true → SharesByte o p → ⊥
apart-shares o p e shares = grind (arith, leb_tells)

clear-of : (o p : ℕ) (seen : List ℕ) → all_apart o seen ≡ true → Has seen p → SharesByte o p → ⊥
clear-of o p [] e h shares = h
clear-of o p (q ∷ seen) e (inl same) shares = apart-shares o q (and_parts (apart o q) (all_apart o seen) e).0 (subst (SharesByte o) (sym same) shares)
clear-of o p (q ∷ seen) e (inr h) shares = clear-of o p seen (and_parts (apart o q) (all_apart o seen) e).1 h shares

-- sites of the first `count` hunks
abbrev Within : ℕ → List (ℕ × ℕ) → Type 0
Within count entries = AllByRecursion (λ site. site.1 < count) entries

Within-insert_entry : (count o t : ℕ) (es : List (ℕ × ℕ)) → t < count → Within count es → Within count (insert_entry nat_cmp es o t)
Within-insert_entry count o t [] h all = (h, tt)
Within-insert_entry count o t (e ∷ es) h all = go (nat_cmp o e.0) (Within-insert_entry count o t es h all.1)
  where
    go : (c : Ordering) → Within count (insert_entry nat_cmp es o t) → Within count (match_ordering c ((o, t) ∷ e ∷ es) ((e.0, t) ∷ es) (e ∷ insert_entry nat_cmp es o t))
    go Less more = (h, all)
    go Equal more = (h, all.1)
    go Greater more = (all.0, more)

-- sites that fit make a map of disjoint sites
sites-apart : (last limit : ℕ) (seen : List ℕ) (entries : List (ℕ × ℕ)) (ss : List (ℕ × Adds)) → SitesFit last limit seen ss
    → StandFrom 0 limit entries → SameSites seen entries → Within (suc last) entries → StandFrom 0 limit (with_sites entries ss) × Within (suc last) (with_sites entries ss)
sites-apart last limit seen entries [] fit stand same within = (stand, within)
sites-apart last limit seen entries ((o, to_hunk t) ∷ ss) fit stand same within =
    let free : Meets entries o → ⊥ = λ m. clear-of o m.0 seen fit.0.1 (same.of_map m.0 m.1) m.2 in
    let more = insert_entry nat_cmp entries o t in
    sites-apart last limit (o ∷ seen) more ss fit.1
    (StandFrom-insert_entry 0 limit o t entries stand (omega arith) fit.0.0 free)
    (SameSites-more seen entries more o t same (target_at-insert_entry entries o t))
    (Within-insert_entry (suc last) o t entries (omega (arith, fit.0.2)) within)
sites-apart last limit seen entries ((o, to_reference r) ∷ ss) fit stand same within = absurd fit.0

-- ---- symbols and debug blocks

-- a name has no more bytes than its longwords
length-name_of-le : (ws : List ℕ) → length (name_of ws) ≤ 4 * length ws
length-name_of-le ws = omega (arith, length-bytes_of ws, length-take (position_or_len (λ b. b == 0) (bytes_of ws)) (bytes_of ws))

-- a symbol as it is kept
abbrev symbol_of : List ℕ × ℕ → List ℕ × ℕ
symbol_of s = (name_of s.0, s.1)

symbols-typed : (ss : List (List ℕ × ℕ)) → AllByRecursion SymbolFits ss → AllByRecursion IsTypedSymbol (map symbol_of ss)
symbols-typed [] fit = tt
symbols-typed (s ∷ ss) fit = (record { name_bytes = name_of-bytes s.0; value = fit.0.value }, symbols-typed ss fit.1)

symbols-short : (ss : List (List ℕ × ℕ)) → AllByRecursion SymbolFits ss → AllByRecursion (λ s. length s.0 ≤ most_name) (map symbol_of ss)
symbols-short [] fit = tt
symbols-short (s ∷ ss) fit = (omega (arith, length-name_of-le s.0, fit.0.few), symbols-short ss fit.1)

symbols-carried_longwords : (ss : List (List ℕ × ℕ)) → AllByRecursion SymbolFits ss → sum_by symbol_longwords (map symbol_of ss) ≤ sum_by symbol_count ss
symbols-carried_longwords [] fit = omega arith
symbols-carried_longwords (s ∷ ss) fit =
    let one : longword_count (length (name_of s.0)) ≤ length s.0 = omega (arith, length-name_of-le s.0, fit.0.some) in
    omega (arith, one, symbols-carried_longwords ss fit.1, sum_by-cons symbol_longwords (symbol_of s) (map symbol_of ss), sum_by-cons symbol_count s ss)

debugs-typed : (ds : List (List ℕ)) → AllByRecursion (λ ws. AllByRecursion IsLongword ws) ds → AllByRecursion (All IsLongword) ds
debugs-typed [] fit = tt
debugs-typed (d ∷ ds) fit = (All-from_recursion IsLongword d fit.0, debugs-typed ds fit.1)

-- ---- a hunk

content-short : (kind : HunkKind) (size : ℕ) (ws : List ℕ) → ContentFits kind size ws → length (bytes_of ws) ≤ most_content kind size
content-short Code size ws fits = omega (arith, length-bytes_of ws, fits)
content-short Data size ws fits = omega (arith, length-bytes_of ws, fits)
content-short Bss size ws fits = omega (arith, length-bytes_of ws, ap length fits)

hunk-valid : (last bits size : ℕ) (h : Hunk) → HunkFits last size h → IsLoadHunk (suc last) (file_hunk bits size h)
hunk-valid last bits size h fits =
    let told = fits.told in
    let sites = sites-apart last (4 * size) [] [] h.tables.sites told.sites tt SameSites-none tt in
    record {
      typed = record {
        bytes = bytes_of-lt h.content;
        apart = sites.0;
        symbols = All-from_recursion IsTypedSymbol (map symbol_of h.tables.symbols) (symbols-typed h.tables.symbols told.symbols);
        debugs = All-from_recursion (All IsLongword) h.tables.debugs (debugs-typed h.tables.debugs told.debugs);
      };
      whole = omega (arith, length-bytes_of h.content);
      content = content-short h.kind size h.content fits.content;
      limit = refl;
      targets = All-from_recursion (λ site. site.1 < suc last) (with_sites [] h.tables.sites) sites.1;
      names = All-from_recursion (λ s. length s.0 ≤ most_name) (map symbol_of h.tables.symbols) (symbols-short h.tables.symbols told.symbols);
    }

carried_by-le : (last bits size : ℕ) (h : Hunk) → HunkFits last size h → carried_by (file_hunk bits size h) ≤ told_count h.tables
carried_by-le last bits size h fits = omega (arith, symbols-carried_longwords h.tables.symbols fits.told.symbols)

-- ---- the hunks of a file

-- the hunks of trees
abbrev values : ℕ → List LoadHunkTree → List FileHunk
values last ts = map (λ t. load_hunk_value last t) ts

-- each of them fits
abbrev Fit : ℕ → List LoadHunkTree → Type 0
Fit last ts = AllByRecursion (λ t. HunkFits last t.size (value_of last t)) ts

values-valid : (last : ℕ) (ts : List LoadHunkTree) → Fit last ts → AllByRecursion (IsLoadHunk (suc last)) (values last ts)
values-valid last [] fit = tt
values-valid last (t ∷ ts) fit = (hunk-valid last t.memory_bits t.size (value_of last t) fit.0, values-valid last ts fit.1)

size_of-values : (last : ℕ) (ts : List LoadHunkTree) → size_of (values last ts) ≡ sum_by (λ t. t.size) ts
size_of-values last [] = refl
size_of-values last (t ∷ ts) = omega (arith, size_of-values last ts, sum_by-cons (λ (h : FileHunk). h.size) (load_hunk_value last t) (values last ts), sum_by-cons (λ (u : LoadHunkTree). u.size) t ts)

carried_longwords-values : (last : ℕ) (ts : List LoadHunkTree) → Fit last ts → carried_longwords (values last ts) ≤ sum_by (λ t. told_count (value_of last t).tables) ts
carried_longwords-values last [] fit = omega arith
carried_longwords-values last (t ∷ ts) fit =
    omega (
      arith,
      carried_by-le last t.memory_bits t.size (value_of last t) fit.0,
      carried_longwords-values last ts fit.1,
      sum_by-cons carried_by (load_hunk_value last t) (values last ts),
      sum_by-cons (λ (u : LoadHunkTree). told_count (value_of last u).tables) t ts,
    )

-- the value of a tree whose longwords are a file
IsLoadFile-value : (t : LoadTree) (ws : List ℕ) → IsFileOf Load t ws → IsLoadFile (load_value t)
IsLoadFile-value t ws file =
    let last = length t.others in
    let trees = t.first ∷ t.others in
    let pass = file.fits in
    let obey = file.sites in
    let sizes = sizes-fit last (2 ^ 24) [] trees (load_hunks last trees []) pass.1.1.1.1.1 obey.1.1.1.1.1 in
    let hunks = hunks-fit last trees sizes.pass sizes.obey in
    let table = reject_unless-none (nat_le 1 (suc last) && nat_le (suc last) 65535) HunkTable pass.1.1.0.passes in
    let few : suc last ≤ 65535 = leb-true (suc last) 65535 (and_parts (nat_le 1 (suc last)) (nat_le (suc last) 65535) table).1 in
    let count : length (load_value t) ≡ suc last = length-map trees (load_hunk_value last) in
    let short : long_count (load_spelling t) ≤ 2 ^ 28 = omega (arith, long_count-le None (load_spelling t), ap length file.spelled, file.short_enough) in
    record {
      some = omega (arith, count);
      few = omega (arith, count, few);
      small = omega (arith, size_of-values last trees, sizes.sum);
      carries = omega (arith, carried_longwords-values last trees hunks.hunks, hunks.count, sizes.count, short);
      each = subst (λ n. All (IsLoadHunk n) (load_value t)) (sym count) (All-from_recursion (IsLoadHunk (suc last)) (load_value t) (values-valid last trees hunks.hunks));
    }

pub IsLoadFile-load : (hunks : List FileHunk) (ws : List ℕ) → IsLoad hunks ws → IsLoadFile hunks
IsLoadFile-load hunks ws load = subst IsLoadFile load.value (IsLoadFile-value load.tree ws load.is_file)
