-- The tree of a written form of a load file spells that form.
use Rattle.std.proofs.Common.{◌≡◌, ◌∙◌, ℕ, suc, ◌+◌, ◌-◌, ◌*◌, ◌^◌, ◌<◌, ◌≤◌, nat_le, nat_lt, not, Option, None, List, [], ◌∷◌, ◌++◌, length, map, append_assoc, refl, ap, sym, subst, arith}
use Rattle.std.specs.List.{All, AllByRecursion, flat_map}
use Rattle.std.proofs.lemmas.Bool.{and_from, eq-eqb, le-leb, lt-ltb}
use Rattle.std.proofs.lemmas.List.{length-map}
use Rattle.std.proofs.lemmas.List.Elements.{All-head, All-tail, recursion_from_All}
use Rattle.std.proofs.lemmas.List.Sums.{sum_by-cons}
use Rattle.hunk_base.specs.Longwords.{longwords}
use Rattle.hunk_words.specs.Kinds.{Field, field, low}
use Rattle.hunk_words.specs.FaultTable.{and_then}
use Rattle.hunk_words.specs.Kinds.Within.{in_load}
use Rattle.hunk_words.specs.Kinds.Kind.{load_start, hunk_type, resident, table_size, first_hunk, last_hunk, header_size}
use Rattle.hunk_words.specs.declared.kinds.HunkKind.TheVariants as content_type
use Rattle.hunk_base.specs.declared.fault.Reason.{Reason}
use Rattle.hunk_base.specs.declared.fault.Reason.TheVariants.{BothMemoryBits, HunkTable, TooLarge, WrongStart}
use Rattle.hunk_base.specs.Sites.{StandFrom}
use Rattle.hunk_words.specs.Spelling.{type_longword, blocks_end, content_then, hunk_at, load_hunks, load_spelling, sizes_at}
use Rattle.hunk_words.specs.Trees.{BlockTree}
use Rattle.hunk_base.proofs.LongwordsLemmas.{length-longwords}
use Rattle.hunk_words.proofs.SpellingBitLemmas.{type_longword-bits, type_longword-low}
use Rattle.hunk_base.proofs.SitesLemmas.{AreApart-few}
use Rattle.hunk_words.proofs.KindsTypeLemmas.{type-code, type-data, type-bss}
use Rattle.hunk_words.specs.declared.kinds.HunkKind.{HunkKind}
use Rattle.hunk_words.specs.declared.kinds.HunkKind.TheVariants.{Code, Data, Bss}
use Rattle.hunk_words.specs.declared.kinds.Memory.{Memory}
use Rattle.hunk_words.specs.declared.kinds.Memory.TheVariants.{Any, Chip, Fast}
use Rattle.hunk_loadfile.specs.declared.load_form.LoadForm.{LoadForm}
use Rattle.hunk_loadfile.specs.LoadForm.{is_short, long_sites, short_sites}
use Rattle.hunk_loadfile.specs.LoadHunk.{FileHunk}
use Rattle.hunk_loadfile.specs.Rules.{IsLoadFile, IsLoadHunk, IsLongword, IsTypedSymbol, carried_longwords, carried_by, size_of}
use Rattle.hunk_base.specs.Name.{most_name}
use Rattle.hunk_loadfile.specs.WrittenForm.{content_words, debug_words, hunk_words, memory_bits, short_words, site_words, size_word, symbols_words, written_in}
use Rattle.hunk_loadfile.proofs.LoadHunkLemmas.{most_content-le}
use Rattle.hunk_loadfile.proofs.WrittenFormTree.{body_tree, content_tree, debug_trees, file_tree, hunk_tree, short_trees, site_trees, symbol_trees}
use Rattle.hunk_base.proofs.LongwordsByteLemmas.{longwords-long}
use Rattle.hunk_loadfile.proofs.LoadFormLemmas.{in_parts, length-both, lie-before, short_sites-few, short_sites-near, stand-filter}
use Rattle.hunk_loadfile.proofs.WrittenFormShortLemmas.{spells-short}
use Rattle.hunk_loadfile.proofs.WrittenFormPartLemmas.{Spells, reject_unless-holds, spells-begin, spells-debugs, spells-next, spells-sites, spells-size, spells-symbols, spells-words, type_longword-is, type_longword-plain}

-- ---- hunks

spells-content : (kind : HunkKind) (last size : ℕ) (ws : List ℕ) (blocks : List BlockTree) (fs : List Field) (us : List ℕ) → length ws ≤ size → size ≤ 2 ^ 24 → AllByRecursion IsLongword ws
    → Spells [] (blocks_end (in_load last size) (4 * size) blocks 0 fs) us
    → Spells [] (content_then (hunk_type last size) (in_load last size) (content_tree kind size ws) blocks 0 fs) (content_words kind size ws ++ us)
spells-content Code last size ws blocks fs us within small long rest =
    spells-begin last size 1001 content_type.Code [] _ _ (omega arith) type-code
    (spells-size last size (length ws) 0 content_type.Code [] _ _ within small (spells-words ws [] (blocks_end (in_load last size) (4 * size) blocks 0 fs) us long rest))
spells-content Data last size ws blocks fs us within small long rest =
    spells-begin last size 1002 content_type.Data [] _ _ (omega arith) type-data
    (spells-size last size (length ws) 0 content_type.Data [] _ _ within small (spells-words ws [] (blocks_end (in_load last size) (4 * size) blocks 0 fs) us long rest))
spells-content Bss last size ws blocks fs us within small long rest =
    spells-begin last size 1003 content_type.Bss [] _ _ (omega arith) type-bss
    (spells-size last size size 0 content_type.Bss [] (blocks_end (in_load last size) (4 * size) blocks 0 fs) us (omega arith) small rest)

regroup : (a s b c d e ws : List ℕ) → (a ++ ((s ++ b) ++ (c ++ (d ++ e)))) ++ ws ≡ a ++ (s ++ (b ++ (c ++ (d ++ (e ++ ws)))))
regroup a s b c d e ws = simp append_assoc

spells-hunk : (form : LoadForm) (count last : ℕ) (h : FileHunk) (fs : List Field) (ws : List ℕ) → count ≤ last + 1 → last < 2 ^ 16 → h.size ≤ 2 ^ 24 → carried_by h ≤ 2 ^ 28 → IsLoadHunk count h
    → Spells [] fs ws → Spells [] (hunk_at (hunk_type last h.size) (in_load last h.size) None (body_tree form count h) fs) (hunk_words form count h ++ ws)
spells-hunk form count last h fs ws within few small carries valid rest =
    let entries = h.sites.entries in
    let near = short_sites form entries in
    let far = long_sites form entries in
    let debugs = debug_trees h.debugs in
    let content_fits = most_content-le h.kind h.size in
    let stored : length (longwords h.content) ≤ h.size = omega (arith, content_fits, valid.content, length-longwords h.content) in
    let few_sites : length entries < 2 ^ 31 = omega (arith, valid.limit, AreApart-few h.sites valid.typed.apart) in
    let stand = subst (λ limit. StandFrom 0 limit h.sites.entries) valid.limit valid.typed.apart in
    subst (λ us. Spells [] (hunk_at (hunk_type last h.size) (in_load last h.size) None (body_tree form count h) fs) us)
    (sym (regroup (content_words h.kind h.size (longwords h.content)) (short_words count near) (site_words count far) (symbols_words h.symbols) (flat_map debug_words h.debugs) (1010 ∷ []) ws))
    (spells-content h.kind last h.size (longwords h.content) (short_trees count near ++ (site_trees count far ++ (symbol_trees h.symbols ++ debugs))) fs _ stored small
    (longwords-long h.content valid.typed.bytes)
    (spells-short last h.size (4 * h.size) count near far (site_trees count far ++ (symbol_trees h.symbols ++ debugs)) fs _ within few (omega (arith, short_sites-few form (4 * h.size) entries stand)) (short_sites-near form entries)
    (stand-filter (λ e. is_short form e.0) 0 (4 * h.size) entries stand) (lie-before 0 (4 * h.size) near far (subst (StandFrom 0 (4 * h.size)) (in_parts form 0 (4 * h.size) entries stand) stand)) (λ near_seen clear.
    spells-sites last h.size (4 * h.size) count far near_seen (symbol_trees h.symbols ++ debugs) fs _ within (omega arith) (omega arith) (omega (arith, length-both form entries)) (stand-filter (λ e. not (is_short form e.0)) 0 (4 * h.size) entries stand) clear (λ seen.
    spells-symbols last h.size (4 * h.size) h.symbols debugs seen fs _ (recursion_from_All IsTypedSymbol h.symbols valid.typed.symbols)
    (recursion_from_All (λ s. length s.0 ≤ most_name) h.symbols valid.names)
    (spells-debugs last h.size (4 * h.size) h.debugs seen fs ws (recursion_from_All (All IsLongword) h.debugs valid.typed.debugs) (omega arith) rest)))))

spells-hunks : (form : LoadForm) (count last : ℕ) (hunks : List FileHunk) → count ≤ last + 1 → last < 2 ^ 16 → size_of hunks ≤ 2 ^ 24 → carried_longwords hunks ≤ 2 ^ 28 → All (IsLoadHunk count) hunks
    → Spells [] (load_hunks last (map (hunk_tree form count) hunks) []) (flat_map (hunk_words form count) hunks)
spells-hunks form count last [] within few small carries valid = record { fits = tt; sites = tt; words = refl }
spells-hunks form count last (h ∷ hs) within few small carries valid =
    let sizes = sum_by-cons (λ (k : FileHunk). k.size) h hs in
    let carried_sum = sum_by-cons carried_by h hs in
    spells-hunk form count last h (load_hunks last (map (hunk_tree form count) hs) []) (flat_map (hunk_words form count) hs) within few (omega arith) (omega arith) (All-head (IsLoadHunk count) h hs valid)
    (spells-hunks form count last hs within few (omega arith) (omega arith) (All-tail (IsLoadHunk count) h hs valid))

-- ---- the header

memory_bits-le : (memory : Memory) → memory_bits memory ≤ 2
memory_bits-le Any = omega arith
memory_bits-le Chip = omega arith
memory_bits-le Fast = omega arith

both-pass : (first second : Option Reason) → first ≡ None → second ≡ None → and_then first second ≡ None
both-pass first second one two = ap (λ o. and_then o second) one ∙ two

spells-header_size : (last room left : ℕ) (before : List ℕ) (memory size : ℕ) (fs : List Field) (ws : List ℕ) → memory ≤ 2 → size ≤ room → room ≤ 2 ^ 24
    → Spells [] fs ws → Spells [] (field (header_size last room left before) (type_longword memory size) ∷ fs) ((memory * 2 ^ 30 + size) ∷ ws)
spells-header_size last room left before memory size fs ws known within small rest =
    let is : type_longword memory size ≡ memory * 2 ^ 30 + size = type_longword-is memory size (omega arith) in
    let fits : type_longword memory size < 2 ^ 32 = omega arith in
    let memory_passes = ap (λ b. nat_lt b 3) (type_longword-bits memory size fits) ∙ lt-ltb memory 3 (omega arith) in
    let size_passes = ap (λ n. nat_le n room) (type_longword-low memory size fits) ∙ le-leb size room within in
    let passes = both-pass _ _ (reject_unless-holds BothMemoryBits memory_passes) (reject_unless-holds TooLarge size_passes) in
    subst (λ n. Spells [] (field (header_size last room left before) (type_longword memory size) ∷ fs) (n ∷ ws)) is
    (spells-next (header_size last room left before) (type_longword memory size) [] fs ws refl (record { fits = fits; passes = passes }) refl rest)

spells-sizes : (form : LoadForm) (count last room : ℕ) (before : List ℕ) (hunks : List FileHunk) (fs : List Field) (ws : List ℕ) → size_of hunks ≤ room → room ≤ 2 ^ 24
    → Spells [] fs ws → Spells [] (sizes_at last room before (map (hunk_tree form count) hunks) fs) (map size_word hunks ++ ws)
spells-sizes form count last room before [] fs ws fit small rest = rest
spells-sizes form count last room before (h ∷ hs) fs ws fit small rest =
    let sizes = sum_by-cons (λ (k : FileHunk). k.size) h hs in
    let left = length (map (hunk_tree form count) hs) in
    spells-header_size last room left before (memory_bits h.memory) h.size _ _ (memory_bits-le h.memory) (omega arith) small
    (spells-sizes form count last (room - h.size) (h.size ∷ before) hs fs ws (omega arith) (omega arith) rest)

-- what comes before the sizes
spells-start : (last : ℕ) (fs : List Field) (ws : List ℕ) → suc last ≤ 65535 → Spells [] fs ws
    → Spells [] (field load_start (type_longword 0 1011) ∷ field resident 0 ∷ field table_size (suc last) ∷ field first_hunk 0 ∷ field (last_hunk last) last ∷ fs) (1011 ∷ 0 ∷ suc last ∷ 0 ∷ last ∷ ws)
spells-start last fs ws few rest =
    let plain : type_longword 0 1011 ≡ 1011 = type_longword-plain 1011 (omega arith) in
    let start = eq-eqb (low (type_longword 0 1011)) 1011 (type_longword-low 0 1011 (omega arith)) in
    let table = and_from (nat_le 1 (suc last)) (nat_le (suc last) 65535) (le-leb 1 (suc last) (omega arith)) (le-leb (suc last) 65535 few) in
    let behind = field resident 0 ∷ field table_size (suc last) ∷ field first_hunk 0 ∷ field (last_hunk last) last ∷ fs in
    subst (λ n. Spells [] (field load_start (type_longword 0 1011) ∷ behind) (n ∷ 0 ∷ suc last ∷ 0 ∷ last ∷ ws)) plain
    (spells-next load_start (type_longword 0 1011) [] _ _ refl (record { fits = omega arith; passes = reject_unless-holds WrongStart start }) refl
    (spells-next resident 0 [] _ _ refl (record { fits = omega arith; passes = refl }) refl
    (spells-next table_size (suc last) [] _ _ refl (record { fits = omega arith; passes = reject_unless-holds HunkTable table }) refl
    (spells-next first_hunk 0 [] _ _ refl (record { fits = omega arith; passes = refl }) refl
    (spells-next (last_hunk last) last [] fs ws refl (record { fits = omega arith; passes = reject_unless-holds HunkTable (eq-eqb last last refl) }) refl rest)))))

-- ---- the whole file

pub spells-file : (form : LoadForm) (h : FileHunk) (hs : List FileHunk) → IsLoadFile (h ∷ hs) → Spells [] (load_spelling (file_tree form h hs)) (written_in form (h ∷ hs))
spells-file form h hs valid =
    let hunks = h ∷ hs in
    let count = length hunks in
    let last : ℕ = length (map (hunk_tree form (length (h ∷ hs))) hs) in
    let same : last ≡ length hs = length-map hs (hunk_tree form (length (h ∷ hs))) in
    let few : length (h ∷ hs) ≤ 65535 = valid.few in
    let less : length hs ≡ length (h ∷ hs) - 1 = omega arith in
    let body = map size_word hunks ++ flat_map (hunk_words form count) hunks in
    subst (λ ws. Spells [] (load_spelling (file_tree form h hs)) ws)
    (ap (λ n. 1011 ∷ 0 ∷ suc n ∷ 0 ∷ n ∷ body) same ∙ ap (λ n. 1011 ∷ 0 ∷ count ∷ 0 ∷ n ∷ body) less)
    (spells-start last _ body (omega arith)
    (spells-sizes form count last (2 ^ 24) [] hunks (load_hunks last (map (hunk_tree form count) hunks) []) (flat_map (hunk_words form count) hunks) valid.small (omega arith)
    (spells-hunks form count last hunks (omega arith) (omega arith) valid.small valid.carries valid.each)))
