-- The lines of hunks beside their addresses.
use Rattle.std.proofs.Common.{◌≡◌, ℕ, ◌+◌, ◌<◌, ◌≤◌, List, [], ◌∷◌, ◌++◌, length, take, get_or, zero-add, append-nil, ap, ap₂, sym, ◌∙◌, arith}
use Rattle.std.proofs.lemmas.Grind.{flat_map-append}
use Rattle.std.proofs.lemmas.List.{get_or-map, length-map, take_all, take_more}
use Rattle.std.proofs.lemmas.List.FromFn.{get_or-enumerate_from, length-enumerate_from}
use Rattle.std.specs.List.{enumerate_from, flat_map}
use Rattle.hunk_loadfile.specs.LoadHunk.{FileHunk}
use Rattle.hunk_loader.specs.Sizes.{sizes_of}
use Rattle.hunk_addresses.specs.PlacesText.{hunk_line}

-- the lines of the first hunks
abbrev pub first_lines : (bases : List ℕ) → ℕ → List FileHunk → List ℕ
first_lines bases number hunks = flat_map (hunk_line bases) (take number (enumerate_from 0 (sizes_of hunks)))

abbrev size : FileHunk → ℕ
size hunk = hunk.size

pub length-sizes_of : (hunks : List FileHunk) → length (sizes_of hunks) ≡ length hunks
length-sizes_of hunks = length-map hunks size

pub first_lines-more : (bases : List ℕ) (hunks : List FileHunk) (number : ℕ) (hunk : FileHunk) → number < length hunks → hunk ≡ get_or hunks number hunk
    → first_lines bases (number + 1) hunks ≡ first_lines bases number hunks ++ hunk_line bases (number, hunk.size)
first_lines-more bases hunks number hunk within is =
    let sizes = sizes_of hunks in
    let entries = enumerate_from 0 sizes in
    let entry : ℕ × ℕ = (number, hunk.size) in
    let counted : number < length sizes = omega (arith, within, length-sizes_of hunks) in
    let inside : number < length entries = omega (arith, counted, length-enumerate_from 0 sizes) in
    let here : get_or entries number entry ≡ entry =
    get_or-enumerate_from 0 sizes number entry counted ∙ ap₂ (λ (n : ℕ) (s : ℕ). (n, s)) (zero-add number) (get_or-map size hunks number hunk hunk.size within ∙ ap size (sym is)) in
    ap (flat_map (hunk_line bases)) (take_more entries number entry inside)
    ∙ flat_map-append (hunk_line bases) (take number entries) (get_or entries number entry ∷ [])
    ∙ ap (λ last. first_lines bases number hunks ++ last) (append-nil (hunk_line bases (get_or entries number entry)) ∙ ap (hunk_line bases) here)

pub first_lines-all : (bases : List ℕ) (hunks : List FileHunk) (number : ℕ) → length hunks ≤ number → first_lines bases number hunks ≡ flat_map (hunk_line bases) (enumerate_from 0 (sizes_of hunks))
first_lines-all bases hunks number all =
    ap (flat_map (hunk_line bases)) (take_all number (enumerate_from 0 (sizes_of hunks)) (omega (arith, all, length-sizes_of hunks, length-enumerate_from 0 (sizes_of hunks))))
