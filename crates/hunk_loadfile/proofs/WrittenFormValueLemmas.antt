-- The value of the tree of a load file in either written form is that file.
use Rattle.std.proofs.Common.{◌≡◌, ◌∙◌, ℕ, zero, suc, ◌+◌, ◌*◌, ◌<◌, ◌≤◌, List, [], ◌∷◌, ◌++◌, length, map, not, refl, ap, sym, subst, arith}
use Rattle.std.specs.List.{All, AllByRecursion}
use Rattle.std.proofs.lemmas.List.{append-nil}
use Rattle.std.proofs.lemmas.List.Elements.{All-head, All-tail, recursion_from_All}
use Rattle.hunk_words.specs.Kinds.{Within}
use Rattle.hunk_words.specs.Kinds.Within.{in_load}
use Rattle.hunk_base.specs.Longwords.{longwords, IsWhole}
use Rattle.hunk_base.specs.Name.{bytes_of, name_of, name_words}
use Rattle.hunk_base.specs.Sites.{StandFrom}
use Rattle.hunk_words.specs.Trees.{BlockTree, Group}
use Rattle.hunk_words.specs.Trees.BlockTree.{reloc_tree, short_tree}
use Rattle.hunk_words.specs.Values.{Adds, HunkTables, merged, tables_of_block, tables_of_blocks, content_value, tables_of_groups, hunk_value, one_debug, one_site, one_symbol, tables_of_sites, tables_of_symbols}
use Rattle.hunk_words.specs.Values.Adds.{to_hunk}
use Rattle.hunk_base.proofs.LongwordsLemmas.{list-none, IsWhole-length}
use Rattle.hunk_base.proofs.NameLemmas.{length-name_words, name_of-name_words}
use Rattle.hunk_words.specs.declared.kinds.HunkKind.{HunkKind}
use Rattle.hunk_words.specs.declared.kinds.HunkKind.TheVariants.{Code, Data, Bss}
use Rattle.hunk_words.specs.declared.kinds.Memory.{Memory}
use Rattle.hunk_words.specs.declared.kinds.Memory.TheVariants.{Any, Chip, Fast}
use Rattle.hunk_loadfile.specs.declared.load_form.LoadForm.{LoadForm}
use Rattle.hunk_loadfile.specs.LoadForm.{is_short, long_sites, short_sites}
use Rattle.hunk_loadfile.specs.LoadHunk.{FileHunk}
use Rattle.hunk_loadfile.specs.LoadFile.{load_hunk_value, load_value, with_sites}
use Rattle.hunk_words.specs.Kinds.{memory_of}
use Rattle.hunk_loadfile.specs.Rules.{IsLoadFile, IsLoadHunk, IsTypedSymbol, most_content}
use Rattle.hunk_loadfile.specs.WrittenForm.{memory_bits, offsets_to}
use Rattle.hunk_loadfile.proofs.LoadFormLemmas.{AllByRecursion-filter, LieBefore, in_parts, lie-before, lies-behind, stand-filter}
use Rattle.hunk_loadfile.proofs.WrittenFormInsertLemmas.{AreBehind, put_in-all, put_in-behind, sites_from, sites_from-behind, sites_to, with_sites-append}
use Rattle.hunk_base.proofs.LongwordsByteLemmas.{bytes_of-longwords}
use Rattle.hunk_loadfile.proofs.WrittenFormTree.{block_trees, body_tree, content_tree, debug_trees, file_tree, group_tree, group_trees, hunk_tree, short_trees, site_trees, symbol_of, symbol_trees}

-- ---- what the blocks mean

abbrev only_sites : List (ℕ × Adds) → HunkTables
only_sites sites = record { sites = sites; references = []; definitions = []; symbols = []; debugs = [] }

-- names in longwords
abbrev in_longwords : List (List ℕ × ℕ) → List (List ℕ × ℕ)
in_longwords ss = map (λ s. (name_words s.0, s.1)) ss

abbrev others : List (List ℕ × ℕ) → List (List ℕ) → HunkTables
others symbols debugs = record { sites = []; references = []; definitions = []; symbols = in_longwords symbols; debugs = debugs }

told-sites : (os : List ℕ) (a : Adds) → tables_of_sites os a ≡ only_sites (map (λ o. (o, a)) os)
told-sites [] a = refl
told-sites (o ∷ os) a = ap (λ told. merged (one_site o a) told) (told-sites os a)

told-group : (target : ℕ) (os : List ℕ) (gs : List Group) → tables_of_groups (group_tree target os ++ gs) ≡ merged (tables_of_sites os (to_hunk target)) (tables_of_groups gs)
told-group target [] gs = refl
told-group target (o ∷ os) gs = refl

told-groups : (from count : ℕ) (es : List (ℕ × ℕ)) → tables_of_groups (group_trees from count es) ≡ only_sites (sites_from from count es)
told-groups from zero es = refl
told-groups from (suc count) es =
    let os = offsets_to from es in
    let gs = group_trees (from + 1) count es in
    told-group from os gs
    ∙ ap (λ told. merged told (tables_of_groups gs)) (told-sites os (to_hunk from))
    ∙ ap (λ told. merged (only_sites (sites_to from os)) told) (told-groups (from + 1) count es)

told-debugs : (r : ℕ) (ds : List (List ℕ)) → tables_of_blocks r (debug_trees ds) ≡ others [] ds
told-debugs r [] = refl
told-debugs r (d ∷ ds) = ap (λ told. merged (one_debug d) told) (told-debugs (r + 0) ds)

told-symbol : (name : List ℕ) (amount : ℕ) → 1 ≤ length name → one_symbol ((symbol_of name amount).first ∷ (symbol_of name amount).others) (symbol_of name amount).amount ≡ one_symbol name amount
told-symbol [] amount some = absurd (omega arith)
told-symbol (w ∷ name) amount some = refl

told-all_symbols : (ss : List (List ℕ × ℕ)) → tables_of_symbols (map (λ s. symbol_of (name_words s.0) s.1) ss) ≡ others ss []
told-all_symbols [] = refl
told-all_symbols (s ∷ ss) =
    let some : 1 ≤ length (name_words s.0) = omega (arith, length-name_words s.0) in
    ap (λ told. merged told (tables_of_symbols (map (λ t. symbol_of (name_words t.0) t.1) ss))) (told-symbol (name_words s.0) s.1 some)
    ∙ ap (λ told. merged (one_symbol (name_words s.0) s.1) told) (told-all_symbols ss)

told-symbols : (r : ℕ) (ss : List (List ℕ × ℕ)) (ds : List (List ℕ)) → tables_of_blocks r (symbol_trees ss ++ debug_trees ds) ≡ others ss ds
told-symbols r [] ds = told-debugs r ds
told-symbols r (s ∷ ss) ds =
    let told = tables_of_symbols (map (λ t. symbol_of (name_words t.0) t.1) (s ∷ ss)) in
    let next : ℕ = r + length told.references in
    ap (λ first. merged first (tables_of_blocks next (debug_trees ds))) (told-all_symbols (s ∷ ss))
    ∙ ap (λ second. merged (others (s ∷ ss) []) second) (told-debugs next ds)
    ∙ ap (λ symbols. record { sites = []; references = []; definitions = []; symbols = symbols; debugs = ds }) (append-nil (in_longwords (s ∷ ss)))

-- the sites of a block in file order
abbrev pub in_file_order : ℕ → List (ℕ × ℕ) → List (ℕ × Adds)
in_file_order count [] = []
in_file_order count (e ∷ es) = sites_from 0 count (e ∷ es)

abbrev tables : List (ℕ × Adds) → List (List ℕ × ℕ) → List (List ℕ) → HunkTables
tables sites symbols debugs = record (others symbols debugs) { sites = sites }

-- a relocation block of either kind, and what comes after it
told-block : (block : List Group → BlockTree) → ((r : ℕ) (gs : List Group) → tables_of_block r (block gs) ≡ tables_of_groups gs)
    → (r count : ℕ) (es : List (ℕ × ℕ)) (blocks : List BlockTree) (sites : List (ℕ × Adds)) (ss : List (List ℕ × ℕ)) (ds : List (List ℕ))
    → ((next : ℕ) → tables_of_blocks next blocks ≡ tables sites ss ds)
    → tables_of_blocks r (block_trees block count es ++ blocks) ≡ tables (in_file_order count es ++ sites) ss ds
told-block block is r count [] blocks sites ss ds rest = rest r
told-block block is r count (e ∷ es) blocks sites ss ds rest =
    let gs = group_trees 0 count (e ∷ es) in
    let next : ℕ = r + length (tables_of_block r (block gs)).references in
    ap (λ first. merged first (tables_of_blocks next blocks)) (is r gs ∙ told-groups 0 count (e ∷ es))
    ∙ ap (λ second. merged (only_sites (sites_from 0 count (e ∷ es))) second) (rest next)

told-blocks : (r count : ℕ) (near far : List (ℕ × ℕ)) (ss : List (List ℕ × ℕ)) (ds : List (List ℕ))
    → tables_of_blocks r (short_trees count near ++ (site_trees count far ++ (symbol_trees ss ++ debug_trees ds))) ≡ tables (in_file_order count near ++ in_file_order count far) ss ds
told-blocks r count near far ss ds =
    told-block (λ gs. short_tree 0 gs 0) (λ r gs. refl) r count near _ (in_file_order count far) ss ds (λ next.
    told-block (λ gs. reloc_tree 0 gs) (λ r gs. refl) next count far _ [] ss ds (λ last. told-symbols last ss ds)
    ∙ ap (λ sites. tables sites ss ds) (append-nil (in_file_order count far)))

-- ---- the parts of a hunk

read-block : (count limit : ℕ) (es : List (ℕ × ℕ)) → StandFrom 0 limit es → AllByRecursion (λ e. e.1 < count) es → with_sites [] (in_file_order count es) ≡ es
read-block count limit [] stand targets = refl
read-block count limit (e ∷ es) stand targets = put_in-all count limit (e ∷ es) stand targets

order-behind : (offset count : ℕ) (es : List (ℕ × ℕ)) → AreBehind offset es → AllByRecursion (λ s. offset < s.0) (in_file_order count es)
order-behind offset count [] behind = tt
order-behind offset count (e ∷ es) behind = sites_from-behind offset 0 count (e ∷ es) behind

-- sites that lie before those of a block keep their places
read-behind : (count : ℕ) (near far : List (ℕ × ℕ)) → LieBefore near far → with_sites near (in_file_order count far) ≡ near ++ with_sites [] (in_file_order count far)
read-behind count [] far before = refl
read-behind count (e ∷ near) far before =
    put_in-behind e near (in_file_order count far) (order-behind e.0 count far (lies-behind e.0 far before.0)) ∙ ap (λ sites. e ∷ sites) (read-behind count near far before.1)

read-sites : (form : LoadForm) (count limit : ℕ) (es : List (ℕ × ℕ)) → StandFrom 0 limit es → AllByRecursion (λ e. e.1 < count) es
    → with_sites [] (in_file_order count (short_sites form es) ++ in_file_order count (long_sites form es)) ≡ es
read-sites form count limit es stand targets =
    let near = short_sites form es in
    let far = long_sites form es in
    let parts = in_parts form 0 limit es stand in
    let short = λ (e : ℕ × ℕ). is_short form e.0 in
    let long = λ (e : ℕ × ℕ). not (is_short form e.0) in
    with_sites-append [] (in_file_order count near) (in_file_order count far)
    ∙ ap (λ sites. with_sites sites (in_file_order count far)) (read-block count limit near (stand-filter short 0 limit es stand) (AllByRecursion-filter short (λ e. e.1 < count) es targets))
    ∙ read-behind count near far (lie-before 0 limit near far (subst (StandFrom 0 limit) parts stand))
    ∙ ap (λ sites. near ++ sites) (read-block count limit far (stand-filter long 0 limit es stand) (AllByRecursion-filter long (λ e. e.1 < count) es targets))
    ∙ sym parts

read-symbols : (ss : List (List ℕ × ℕ)) → AllByRecursion IsTypedSymbol ss → map (λ s. (name_of s.0, s.1)) (in_longwords ss) ≡ ss
read-symbols [] typed = refl
read-symbols (s ∷ ss) typed =
    ap (λ name. (name, s.1) ∷ map (λ t. (name_of t.0, t.1)) (in_longwords ss)) (name_of-name_words s.0 typed.0.name_bytes)
    ∙ ap (λ more. s ∷ more) (read-symbols ss typed.1)

read-memory : (memory : Memory) → memory_of (memory_bits memory) ≡ memory
read-memory Any = refl
read-memory Chip = refl
read-memory Fast = refl

read-kind : (kind : HunkKind) (w : Within) (told : HunkTables) (size : ℕ) (ws : List ℕ) → (content_value w [] told (content_tree kind size ws)).kind ≡ kind
read-kind Code w told size ws = refl
read-kind Data w told size ws = refl
read-kind Bss w told size ws = refl

read-told : (kind : HunkKind) (w : Within) (told : HunkTables) (size : ℕ) (ws : List ℕ) → (content_value w [] told (content_tree kind size ws)).tables ≡ told
read-told Code w told size ws = refl
read-told Data w told size ws = refl
read-told Bss w told size ws = refl

read-content : (kind : HunkKind) (w : Within) (told : HunkTables) (size : ℕ) (content : List ℕ) → All (λ b. b < 256) content → IsWhole content → length content ≤ most_content kind size
    → bytes_of (content_value w [] told (content_tree kind size (longwords content))).content ≡ content
read-content Code w told size content bytes whole fits = bytes_of-longwords content bytes whole
read-content Data w told size content bytes whole fits = bytes_of-longwords content bytes whole
read-content Bss w told size content bytes whole fits = sym (list-none content (omega arith))

-- ---- hunks

abbrev hunk_of : HunkKind → Memory → ℕ → List ℕ → ℕ → List (ℕ × ℕ) → List (List ℕ × ℕ) → List (List ℕ) → FileHunk
hunk_of kind memory size content limit entries symbols debugs = record {
  kind = kind;
  memory = memory;
  size = size;
  content = content;
  sites = record { limit = limit; entries = entries };
  symbols = symbols;
  debugs = debugs;
}

read-hunk : (form : LoadForm) (last count : ℕ) (h : FileHunk) → IsLoadHunk count h → load_hunk_value last (hunk_tree form count h) ≡ h
read-hunk form last count h valid =
    let w = in_load last h.size in
    let value = hunk_value w (hunk_tree form count h).hunk in
    let named = λ (told : HunkTables). map (λ s. (name_of s.0, s.1)) told.symbols in
    let told = read-told h.kind w (tables_of_blocks 0 (body_tree form count h).blocks) h.size (longwords h.content) ∙ told-blocks 0 count (short_sites form h.sites.entries) (long_sites form h.sites.entries) h.symbols h.debugs in
    let stand = subst (λ limit. StandFrom 0 limit h.sites.entries) valid.limit valid.typed.apart in
    let sites = read-sites form count (4 * h.size) h.sites.entries stand (recursion_from_All (λ e. e.1 < count) h.sites.entries valid.targets) in
    let content = read-content h.kind w (tables_of_blocks 0 (body_tree form count h).blocks) h.size h.content valid.typed.bytes (IsWhole-length h.content valid.whole) valid.content in
    ap (λ k. hunk_of k (memory_of (memory_bits h.memory)) h.size (bytes_of value.content) (4 * h.size) (with_sites [] value.tables.sites) (named value.tables) value.tables.debugs)
    (read-kind h.kind w (tables_of_blocks 0 (body_tree form count h).blocks) h.size (longwords h.content))
    ∙ ap (λ m. hunk_of h.kind m h.size (bytes_of value.content) (4 * h.size) (with_sites [] value.tables.sites) (named value.tables) value.tables.debugs) (read-memory h.memory)
    ∙ ap (λ bytes. hunk_of h.kind h.memory h.size bytes (4 * h.size) (with_sites [] value.tables.sites) (named value.tables) value.tables.debugs) content
    ∙ ap (λ t. hunk_of h.kind h.memory h.size h.content (4 * h.size) (with_sites [] t.sites) (named t) t.debugs) told
    ∙ ap (λ entries. hunk_of h.kind h.memory h.size h.content (4 * h.size) entries (named (others h.symbols h.debugs)) h.debugs) sites
    ∙ ap (λ limit. hunk_of h.kind h.memory h.size h.content limit h.sites.entries (named (others h.symbols h.debugs)) h.debugs) (sym valid.limit)
    ∙ ap (λ symbols. hunk_of h.kind h.memory h.size h.content h.sites.limit h.sites.entries symbols h.debugs) (read-symbols h.symbols (recursion_from_All IsTypedSymbol h.symbols valid.typed.symbols))

read-hunks : (form : LoadForm) (last count : ℕ) (hunks : List FileHunk) → All (IsLoadHunk count) hunks → map (λ t. load_hunk_value last t) (map (hunk_tree form count) hunks) ≡ hunks
read-hunks form last count [] valid = refl
read-hunks form last count (h ∷ hs) valid =
    ap (λ (first : FileHunk). first ∷ map (λ t. load_hunk_value last t) (map (hunk_tree form count) hs)) (read-hunk form last count h (All-head (IsLoadHunk count) h hs valid))
    ∙ ap (λ (more : List FileHunk). h ∷ more) (read-hunks form last count hs (All-tail (IsLoadHunk count) h hs valid))

pub read-file : (form : LoadForm) (h : FileHunk) (hs : List FileHunk) → IsLoadFile (h ∷ hs) → load_value (file_tree form h hs) ≡ h ∷ hs
read-file form h hs valid = read-hunks form (length (map (hunk_tree form (length (h ∷ hs))) hs)) (length (h ∷ hs)) (h ∷ hs) valid.each
