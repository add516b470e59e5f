-- 16 bits hold every number of a short relocation block.
use Rattle.std.proofs.Common.{ℕ, zero, suc, ◌+◌, ◌^◌, ◌<◌, ◌≤◌, ◌==◌, inl, inr, List, [], ◌∷◌, length, map, arith}
use Rattle.std.specs.List.{All, AllByRecursion, filter, flat_map, range_with_len}
use Rattle.std.proofs.lemmas.Bool.{cases_eq, ne_eqb}
use Rattle.std.proofs.lemmas.List.{length-map}
use Rattle.std.proofs.lemmas.List.Elements.{All-from_recursion, All-weaker, recursion_from_All}
use Rattle.std.proofs.lemmas.List.Sums.{count_by-le-length, length-filter}
use Rattle.hunk_base.specs.Sites.{StandFrom}
use Rattle.hunk_loadfile.specs.declared.load_form.LoadForm.{LoadForm}
use Rattle.hunk_loadfile.specs.declared.load_form.LoadForm.TheVariants.{Short}
use Rattle.hunk_loadfile.specs.Laws.{ShortNumbersFit}
use Rattle.hunk_loadfile.specs.LoadForm.{is_short, short_sites}
use Rattle.hunk_loadfile.specs.WrittenForm.{group_words, groups_words, offsets_to}
use Rattle.hunk_loadfile.proofs.LoadFormLemmas.{AllByRecursion-append, AllByRecursion-filter, short_sites-few, short_sites-near}

pub length-offsets_to-le : (target : ℕ) (es : List (ℕ × ℕ)) → length (offsets_to target es) ≤ length es
length-offsets_to-le target es =
    omega (arith, length-map (filter (λ e. e.1 == target) es) (λ e. e.0), length-filter (λ e. e.1 == target) es, count_by-le-length (λ e. e.1 == target) es)

words-map : (es : List (ℕ × ℕ)) → AllByRecursion (λ e. e.0 < 2 ^ 16) es → AllByRecursion (λ n. n < 2 ^ 16) (map (λ e. e.0) es)
words-map [] near = tt
words-map (e ∷ es) near = (near.0, words-map es near.1)

pub words-offsets_to : (target : ℕ) (es : List (ℕ × ℕ)) → AllByRecursion (λ e. e.0 < 2 ^ 16) es → AllByRecursion (λ n. n < 2 ^ 16) (offsets_to target es)
words-offsets_to target es near = words-map (filter (λ e. e.1 == target) es) (AllByRecursion-filter (λ e. e.1 == target) (λ e. e.0 < 2 ^ 16) es near)

-- the target of a group is that of one of its sites
word-target : (target : ℕ) (es : List (ℕ × ℕ)) → AllByRecursion (λ e. e.1 < 2 ^ 16) es → 0 < length (offsets_to target es) → target < 2 ^ 16
word-target target [] words some = absurd (omega (arith, some))
word-target target (e ∷ es) words some = elim (cases_eq e.1 target) [
  | inl same ↦ omega (arith, words.0)
  | inr other ↦ word-target target es words.1 (rw (ne_eqb e.1 target other) at some)
]

words-group : (target : ℕ) (os : List ℕ) → (0 < length os → target < 2 ^ 16) → length os < 2 ^ 16 → AllByRecursion (λ n. n < 2 ^ 16) os → AllByRecursion (λ n. n < 2 ^ 16) (group_words target os)
words-group target [] named few words = tt
words-group target (o ∷ os) named few words = (few, (named (omega arith), words))

words-groups : (from count : ℕ) (es : List (ℕ × ℕ)) → AllByRecursion (λ e. e.1 < 2 ^ 16) es → length es < 2 ^ 16 → AllByRecursion (λ e. e.0 < 2 ^ 16) es
    → AllByRecursion (λ n. n < 2 ^ 16) (flat_map (λ target. group_words target (offsets_to target es)) (range_with_len from count))
words-groups from zero es targets few near = tt
words-groups from (suc count) es targets few near =
    let os = offsets_to from es in
    AllByRecursion-append (λ n. n < 2 ^ 16) (group_words from os) (flat_map (λ target. group_words target (offsets_to target es)) (range_with_len (from + 1) count))
    (words-group from os (word-target from es targets) (omega (arith, length-offsets_to-le from es)) (words-offsets_to from es near)) (words-groups (from + 1) count es targets few near)

pub short_groups-fit : (form : LoadForm) (count limit : ℕ) (es : List (ℕ × ℕ)) → StandFrom 0 limit es → All (λ e. e.1 < 2 ^ 16) es → All (λ n. n < 2 ^ 16) (groups_words count (short_sites form es))
short_groups-fit form count limit es stand targets =
    let near = short_sites form es in
    let named = AllByRecursion-filter (λ e. is_short form e.0) (λ e. e.1 < 2 ^ 16) es (recursion_from_All (λ e. e.1 < 2 ^ 16) es targets) in
    All-from_recursion (λ n. n < 2 ^ 16) (groups_words count near) (words-groups 0 count near named (omega (arith, short_sites-few form limit es stand)) (short_sites-near form es))

pub short_numbers-fit : ShortNumbersFit
short_numbers-fit count hunk few valid =
    let entries = hunk.sites.entries in
    short_groups-fit Short count hunk.sites.limit entries valid.typed.apart (All-weaker (λ e. e.1 < count) (λ e. e.1 < 2 ^ 16) (λ e below. omega (arith, few)) entries valid.targets)
