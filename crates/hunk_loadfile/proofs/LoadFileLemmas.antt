-- The value of a tree is determined by its header and its hunks.
use Rattle.std.proofs.Common.{◌≡◌, ◌∙◌, ℕ, List, [], ◌∷◌, length, map, refl, ap, sym}
use Rattle.hunk_words.specs.FieldLongwords.{longwords_of}
use Rattle.hunk_words.specs.Spelling.{LoadFits, load_spelling}
use Rattle.hunk_words.specs.Trees.{LoadHunkTree, LoadTree}
use Rattle.hunk_words.specs.Values.{Hunk, load_sizes, load_hunk_values}
use Rattle.hunk_words.proofs.ValuesLemmas.{load-one}
use Rattle.hunk_loadfile.specs.LoadHunk.{FileHunk}
use Rattle.hunk_loadfile.specs.LoadFile.{load_hunk_value, load_value}
use Rattle.hunk_loadfile.specs.Partial.{file_hunks}
use Rattle.hunk_loadfile.specs.Laws.{OneLoad}

-- the hunks of a tree, from the header and the values of the hunks
pub load_hunk_values-file_hunks : (last : ℕ) (trees : List LoadHunkTree)
    → map (λ t. load_hunk_value last t) trees ≡ file_hunks (map (λ t. (t.memory_bits, t.size)) trees) (load_hunk_values last trees)
load_hunk_values-file_hunks last [] = refl
load_hunk_values-file_hunks last (t ∷ ts) = ap (λ (hs : List FileHunk). load_hunk_value last t ∷ hs) (load_hunk_values-file_hunks last ts)

pub load_value-file_hunks : (t : LoadTree) → load_value t ≡ file_hunks (load_sizes t) (load_hunk_values (length t.others) (t.first ∷ t.others))
load_value-file_hunks t = load_hunk_values-file_hunks (length t.others) (t.first ∷ t.others)

-- The same longwords have one value.
pub load_value-one : (t u : LoadTree) → LoadFits t → LoadFits u → longwords_of (load_spelling t) ≡ longwords_of (load_spelling u) → load_value t ≡ load_value u
load_value-one t u fits others spelled =
    let same = load-one t u fits others spelled in
    load_value-file_hunks t
    ∙ ap (λ (sizes : List (ℕ × ℕ)). file_hunks sizes (load_hunk_values (length t.others) (t.first ∷ t.others))) same.0
    ∙ ap (λ (hunks : List Hunk). file_hunks (load_sizes u) hunks) same.1
    ∙ sym (load_value-file_hunks u)

pub one-load : OneLoad
one-load one other ws a b =
    sym a.value ∙ load_value-one a.tree b.tree a.is_file.fits b.is_file.fits (a.is_file.spelled ∙ sym b.is_file.spelled) ∙ b.value
