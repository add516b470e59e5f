-- The length of the written forms of a load file.
use Rattle.std.proofs.Common.{◌≡◌, ℕ, zero, suc, ◌+◌, ◌*◌, ◌≤◌, inl, inr, nat_le, cond, List, [], ◌∷◌, ◌++◌, length, map, sum_by, refl, arith}
use Rattle.std.specs.List.{All, flat_map, range_with_len}
use Rattle.std.proofs.lemmas.Bool.{cases_lt, cases_eq, ne_eqb, eq-eqb, le-leb, lt-leb}
use Rattle.std.proofs.lemmas.List.{length-append, length-map}
use Rattle.std.proofs.lemmas.List.Elements.{All-head, All-tail}
use Rattle.std.proofs.lemmas.List.Sums.{sum_by-cons}
use Rattle.hunk_base.specs.Longwords.{longwords}
use Rattle.hunk_base.specs.Name.{name_words}
use Rattle.hunk_base.proofs.LongwordsLemmas.{length-longwords}
use Rattle.hunk_base.proofs.NameLemmas.{length-name_words}
use Rattle.hunk_base.proofs.SitesLemmas.{AreApart-few}
use Rattle.hunk_words.specs.declared.kinds.HunkKind.{HunkKind}
use Rattle.hunk_words.specs.declared.kinds.HunkKind.TheVariants.{Code, Data, Bss}
use Rattle.hunk_loadfile.specs.declared.load_form.LoadForm.{LoadForm}
use Rattle.hunk_loadfile.specs.LoadForm.{long_sites, short_sites}
use Rattle.hunk_loadfile.proofs.LoadFormLemmas.{length-both}
use Rattle.hunk_loadfile.specs.LoadHunk.{FileHunk}
use Rattle.hunk_loadfile.specs.Rules.{IsLoadFile, IsLoadHunk, carried_longwords, carried_by, debug_longwords, most_carried, most_content, size_of, symbol_longwords}
use Rattle.hunk_loadfile.specs.WrittenForm.{IsShortEnough, content_words, debug_words, group_words, groups_words, hunk_words, offsets_to, paired, relocation_words, short_words, site_words, size_word, symbol_words, symbols_words}
use Rattle.hunk_loadfile.specs.Laws.{WrittenIsShort}
use Rattle.hunk_loadfile.specs.Trimming.{trimmed}
use Rattle.hunk_loadfile.proofs.TrimmingLemmas.{IsLoadFile-trimmed, carried_longwords-trimmed}

-- ---- groups

-- the number of sites that name a hunk from this one on
at_least : ℕ → List (ℕ × ℕ) → ℕ
at_least from [] = 0
at_least from (x ∷ xs) = cond (nat_le from x.1) 1 0 + at_least from xs

at_least-le : (from : ℕ) (xs : List (ℕ × ℕ)) → at_least from xs ≤ length xs
unfolding at_least
at_least-le from [] = omega arith
at_least-le from (x ∷ xs) = elim (cases_lt x.1 from) [
  | inl below ↦ rw (lt-leb from x.1 below) (omega (arith, at_least-le from xs))
  | inr above ↦ rw (le-leb from x.1 above) (omega (arith, at_least-le from xs))
]

at_least-more : (from : ℕ) (xs : List (ℕ × ℕ)) → length (offsets_to from xs) + at_least (from + 1) xs ≡ at_least from xs
unfolding at_least
at_least-more from [] = refl
at_least-more from (x ∷ xs) = elim (cases_eq x.1 from) [
  | inl same ↦ rw (eq-eqb x.1 from same, lt-leb (from + 1) x.1 (omega arith), le-leb from x.1 (omega arith)) (omega (arith, at_least-more from xs))
  | inr other ↦ elim (cases_lt x.1 from) [
    | inl below ↦ rw (ne_eqb x.1 from other, lt-leb (from + 1) x.1 (omega arith), lt-leb from x.1 below) (omega (arith, at_least-more from xs))
    | inr above ↦ rw (ne_eqb x.1 from other, le-leb (from + 1) x.1 (omega arith), le-leb from x.1 above) (omega (arith, at_least-more from xs))
  ]
]

length-group_words-le : (target : ℕ) (os : List ℕ) → length (group_words target os) ≤ 3 * length os
length-group_words-le target [] = omega arith
length-group_words-le target (o ∷ os) = omega arith

groups-le : (from count : ℕ) (xs : List (ℕ × ℕ)) → length (flat_map (λ target. group_words target (offsets_to target xs)) (range_with_len from count)) ≤ 3 * at_least from xs
groups-le from zero xs = omega arith
groups-le from (suc count) xs =
    let rest = flat_map (λ target. group_words target (offsets_to target xs)) (range_with_len (from + 1) count) in
    omega (arith, groups-le (from + 1) count xs, at_least-more from xs, length-group_words-le from (offsets_to from xs), length-append (group_words from (offsets_to from xs)) rest)

-- at most three longwords for each site
pub length-groups_words-le : (count : ℕ) (xs : List (ℕ × ℕ)) → length (groups_words count xs) ≤ 3 * length xs
length-groups_words-le count xs = omega (arith, groups-le 0 count xs, at_least-le 0 xs)

-- ---- the parts of a hunk

pub length-content_words-le : (kind : HunkKind) (size : ℕ) (content : List ℕ) → length content ≤ most_content kind size → length (content_words kind size (longwords content)) ≤ 2 + size
length-content_words-le Code size content fits = omega (arith, length-longwords content)
length-content_words-le Data size content fits = omega (arith, length-longwords content)
length-content_words-le Bss size content fits = omega arith

length-site_words-le : (count : ℕ) (sites : List (ℕ × ℕ)) → length (site_words count sites) ≤ 2 + 3 * length sites
length-site_words-le count [] = omega arith
length-site_words-le count (e ∷ es) = omega (arith, length-groups_words-le count (e ∷ es), length-append (groups_words count (e ∷ es)) (0 ∷ []))

length-paired-le : (ws : List ℕ) → length (paired ws) ≤ length ws
length-paired-le [] = omega arith
length-paired-le (v ∷ []) = omega arith
length-paired-le (v ∷ w ∷ ws) = omega (arith, length-paired-le ws)

length-short_words-le : (count : ℕ) (sites : List (ℕ × ℕ)) → length (short_words count sites) ≤ 2 + 3 * length sites
length-short_words-le count [] = omega arith
length-short_words-le count (e ∷ es) =
    let words = groups_words count (e ∷ es) in
    omega (arith, length-groups_words-le count (e ∷ es), length-append words (0 ∷ []), length-paired-le (words ++ 0 ∷ []))

pub length-relocation_words-le : (form : LoadForm) (count : ℕ) (sites : List (ℕ × ℕ)) → length (relocation_words form count sites) ≤ 4 + 3 * length sites
length-relocation_words-le form count sites =
    let near = short_sites form sites in
    let far = long_sites form sites in
    omega (arith, length-append (short_words count near) (site_words count far), length-short_words-le count near, length-site_words-le count far, length-both form sites)

length-symbol_words : (s : List ℕ × ℕ) → length (symbol_words s) ≡ symbol_longwords s
length-symbol_words s = omega (arith, length-name_words s.0, length-append (name_words s.0) (s.1 ∷ []))

pub length-symbols : (ss : List (List ℕ × ℕ)) → length (flat_map symbol_words ss) ≡ sum_by symbol_longwords ss
length-symbols [] = refl
length-symbols (s ∷ ss) = omega (arith, length-symbol_words s, length-symbols ss, length-append (symbol_words s) (flat_map symbol_words ss), sum_by-cons symbol_longwords s ss)

pub length-symbols_words-le : (ss : List (List ℕ × ℕ)) → length (symbols_words ss) ≤ 2 + sum_by symbol_longwords ss
length-symbols_words-le [] = omega arith
length-symbols_words-le (s ∷ ss) = omega (arith, length-symbols (s ∷ ss), length-append (flat_map symbol_words (s ∷ ss)) (0 ∷ []))

pub length-debugs : (ds : List (List ℕ)) → length (flat_map debug_words ds) ≡ sum_by debug_longwords ds
length-debugs [] = refl
length-debugs (d ∷ ds) = omega (arith, length-debugs ds, length-append (debug_words d) (flat_map debug_words ds), sum_by-cons debug_longwords d ds)

length-hunk_words-le : (form : LoadForm) (count : ℕ) (h : FileHunk) → IsLoadHunk count h → length (hunk_words form count h) ≤ 9 + 4 * h.size + carried_by h
length-hunk_words-le form count h valid =
    let content = content_words h.kind h.size (longwords h.content) in
    let sites = relocation_words form count h.sites.entries in
    let symbols = symbols_words h.symbols in
    let debugs = flat_map debug_words h.debugs in
    let few = AreApart-few h.sites valid.typed.apart in
    omega (
      arith,
      few,
      valid.limit,
      length-content_words-le h.kind h.size h.content valid.content,
      length-relocation_words-le form count h.sites.entries,
      length-symbols_words-le h.symbols,
      length-debugs h.debugs,
      length-append content (sites ++ (symbols ++ (debugs ++ 1010 ∷ []))),
      length-append sites (symbols ++ (debugs ++ 1010 ∷ [])),
      length-append symbols (debugs ++ 1010 ∷ []),
      length-append debugs (1010 ∷ []),
    )

pub length-hunks-le : (form : LoadForm) (count : ℕ) (hunks : List FileHunk) → All (IsLoadHunk count) hunks → length (flat_map (hunk_words form count) hunks) ≤ 9 * length hunks + 4 * size_of hunks + carried_longwords hunks
length-hunks-le form count [] valid = omega arith
length-hunks-le form count (h ∷ hs) valid =
    let here = length-hunk_words-le form count h (All-head (IsLoadHunk count) h hs valid) in
    let rest = length-hunks-le form count hs (All-tail (IsLoadHunk count) h hs valid) in
    omega (arith, here, rest, length-append (hunk_words form count h) (flat_map (hunk_words form count) hs), sum_by-cons (λ (k : FileHunk). k.size) h hs, sum_by-cons carried_by h hs)

pub written_in-is_short : WrittenIsShort
written_in-is_short form hunks valid carries =
    let body = flat_map (hunk_words form (length hunks)) hunks in
    omega (
      arith,
      valid.few,
      valid.small,
      carries,
      length-hunks-le form (length hunks) hunks valid.each,
      length-map hunks size_word,
      length-append (map size_word hunks) body,
    )

pub IsShortEnough-from : (hunks : List FileHunk) → IsLoadFile hunks → carried_longwords hunks ≤ most_carried → IsShortEnough hunks
IsShortEnough-from hunks valid carries = λ form. (
  written_in-is_short form hunks valid carries,
  written_in-is_short form (trimmed hunks) (IsLoadFile-trimmed hunks valid) (carried_longwords-trimmed hunks carries),
)
