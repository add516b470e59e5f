-- The sort compares the bytes of the names.
use Rattle.std.proofs.Common.{List, rules, subst}
use Rattle.std.specs.List.Sorted.{IsPermutation, IsStableBy}
use Rattle.std.proofs.lemmas.Cmp.{nat_list_cmp_total}
use Rattle.std.proofs.lemmas.List.Sorted.{answers_always, ranks_by}
use Rattle.hunk_origins.specs.Names.{Entry, comes_before}
use Rattle.hunk_origins.proofs.names.NameList.sorted.Goals as goal

pub returns : goal.returns
returns g c =
    let order = ranks_by nat_list_cmp_total (λ (e : Entry). e.name) in
    let made = c.in_ok-sort_by.ensures in
    record {
      same = subst (λ (old : List Entry). IsPermutation old c.sort_by.new.self.items) c.self.view_is made.permutation;
      rising = made.sorted comes_before order (answers_always _ _ _ (λ f a r q k. search rules));
      stable = subst (λ (old : List Entry). IsStableBy comes_before old c.sort_by.new.self.items) c.self.view_is (made.stable comes_before order (answers_always _ _ _ (λ f a r q k. search rules)));
    }
