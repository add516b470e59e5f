-- The zero byte that ends the first name is in the list.
use Rattle.std.proofs.Common.{◌≡◌, ◌∙◌, ◌+◌, ◌-◌, ◌≤◌, ◌∷◌, ℕ, suc, List, ap, drop, length, take, sym, arith}
use Rattle.std.proofs.lemmas.List.{length-drop, take_all}
use Rattle.amihunk_c.specs.Keeping.{names_in}
use Rattle.amihunk_c.proofs.KeepingLemmas.{names_in-next, names_in-none}
use Rattle.amihunk_c.proofs.kept.split_first.Goals as goal

pub returns-in_err-end-clause-none : goal.returns-in_err-end-clause-none
returns-in_err-end-clause-none c = let none = names_in-none c.args.list.now (sym c.in_err-end.ensures) in rw c.from_residual.ensures none

pub returns-clause-first : goal.returns-clause-first
returns-clause-first c =
    let list = c.args.list.now in
    let end = c.in_ok-end.end in
    let same : end + 1 ≡ suc end = omega arith in
    let short : length (drop (end + 1) list) ≤ length list - (end + 1) = omega (arith, length-drop (end + 1) list) in
    let rest = take_all (length list - (end + 1)) (drop (end + 1) list) short ∙ ap (λ n. drop n list) same in
    names_in-next list end (sym c.in_ok-end.ensures) ∙ sym (ap (λ (bytes : List ℕ). take end list ∷ names_in bytes) rest)
