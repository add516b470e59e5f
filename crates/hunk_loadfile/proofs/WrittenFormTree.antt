-- The trees of the written forms of a load file.
use Rattle.std.proofs.Common.{ℕ, List, [], ◌∷◌, ◌++◌, None, length, map}
use Rattle.std.specs.List.{flat_map, range_with_len}
use Rattle.hunk_base.specs.Longwords.{longwords}
use Rattle.hunk_base.specs.Name.{name_words}
use Rattle.hunk_words.specs.Trees.{Group, SymbolTree, BlockTree, ContentTree, BodyTree, LoadHunkTree, LoadTree}
use Rattle.hunk_words.specs.Trees.BlockTree.{reloc_tree, short_tree, symbol_tree, debug_tree}
use Rattle.hunk_words.specs.Trees.ContentTree.{code_tree, data_tree, bss_tree}
use Rattle.hunk_words.specs.declared.kinds.HunkKind.{HunkKind}
use Rattle.hunk_words.specs.declared.kinds.HunkKind.TheVariants.{Code, Data, Bss}
use Rattle.hunk_loadfile.specs.declared.load_form.LoadForm.{LoadForm}
use Rattle.hunk_loadfile.specs.LoadForm.{long_sites, short_sites}
use Rattle.hunk_loadfile.specs.LoadHunk.{FileHunk}
use Rattle.hunk_loadfile.specs.WrittenForm.{memory_bits, offsets_to}

-- the content's longwords
abbrev pub content_tree : HunkKind → ℕ → List ℕ → ContentTree
content_tree Code size ws = code_tree 0 0 ws
content_tree Data size ws = data_tree 0 0 ws
content_tree Bss size ws = bss_tree 0 0 size

-- one group, if there are offsets
abbrev pub group_tree : ℕ → List ℕ → List Group
group_tree target [] = []
group_tree target (o ∷ os) = record { target = target; first = o; others = os } ∷ []

-- the groups of `count` targets, from this one on
abbrev pub group_trees : ℕ → ℕ → List (ℕ × ℕ) → List Group
group_trees from count sites = flat_map (λ target. group_tree target (offsets_to target sites)) (range_with_len from count)

-- a relocation block of either kind, if there are sites
abbrev pub block_trees : (List Group → BlockTree) → ℕ → List (ℕ × ℕ) → List BlockTree
block_trees block count [] = []
block_trees block count (e ∷ es) = block (group_trees 0 count (e ∷ es)) ∷ []

abbrev pub short_trees : ℕ → List (ℕ × ℕ) → List BlockTree
short_trees count sites = block_trees (λ gs. short_tree 0 gs 0) count sites

abbrev pub site_trees : ℕ → List (ℕ × ℕ) → List BlockTree
site_trees count sites = block_trees (λ gs. reloc_tree 0 gs) count sites

-- a symbol, whose name has at least one longword
abbrev pub symbol_of : List ℕ → ℕ → SymbolTree
symbol_of [] amount = record { first = 0; others = []; amount = amount }
symbol_of (w ∷ ws) amount = record { first = w; others = ws; amount = amount }

abbrev pub symbol_trees : List (List ℕ × ℕ) → List BlockTree
symbol_trees [] = []
symbol_trees (s ∷ ss) = symbol_tree 0 (map (λ t. symbol_of (name_words t.0) t.1) (s ∷ ss)) ∷ []

abbrev pub debug_trees : List (List ℕ) → List BlockTree
debug_trees ds = map (λ d. debug_tree 0 d) ds

-- one of `count` hunks
abbrev pub body_tree : LoadForm → ℕ → FileHunk → BodyTree
body_tree form count h = record {
  content = content_tree h.kind h.size (longwords h.content);
  blocks = short_trees count (short_sites form h.sites.entries) ++ (site_trees count (long_sites form h.sites.entries) ++ (symbol_trees h.symbols ++ debug_trees h.debugs));
  end_bits = 0;
}

abbrev pub hunk_tree : LoadForm → ℕ → FileHunk → LoadHunkTree
hunk_tree form count h = record { memory_bits = memory_bits h.memory; size = h.size; hunk = record { name = None; body = body_tree form count h } }

-- a file of a first hunk and others
abbrev pub file_tree : LoadForm → FileHunk → List FileHunk → LoadTree
file_tree form h hs = record { type_bits = 0; first = hunk_tree form (length (h ∷ hs)) h; others = map (hunk_tree form (length (h ∷ hs))) hs }
