-- The sorts are stable, and the walk is in ascending order of offset.
use Rattle.std.proofs.Common.{◌≡◌, ◌<◌, ◌≤◌, ◌^◌, ◌∙◌, ◌++◌, true, false, Bool, not, ℕ, List, [], length, sym, ap, subst, append-nil, arith, rules}
use Rattle.std.proofs.lemmas.List.Elements.{All-push}
use Rattle.std.proofs.lemmas.List.Sorted.{IsNonDecreasingBy-from_sort_by_key, answers_always, length_permutation}
use Rattle.std.specs.List.{All, filter}
use Rattle.std.specs.List.Sorted.{IsPermutation}
use Rattle.hunk_base.specs.Sites.{StandFrom}
use Rattle.hunk_loadfile.specs.LoadForm.{is_short}
use Rattle.hunk_loadfile.specs.WrittenForm.{offsets_to}
use Rattle.hunk_loadfile.proofs.LoadFormLemmas.{stand-filter, taken-more, taken-same}
use Rattle.hunk_loadfile.proofs.RelocationWriterLemmas.{StandFrom-few, offsets_to-stable}
use Rattle.hunk_loadfile.proofs.relocation_writer.by_target.Goals as goal

-- if no site is left
all-taken : (test : ℕ × ℕ → Bool) (xs left all : List (ℕ × ℕ)) → xs ++ filter test left ≡ all → left ≡ [] → xs ≡ all
all-taken test xs left all is none = sym (append-nil xs) ∙ ap (λ (rest : List (ℕ × ℕ)). xs ++ filter test rest) (sym none) ∙ is

pub loop-offset-preserved-in-Continue-branch-3 : goal.loop-offset-preserved-in-Continue-branch-3
loop-offset-preserved-in-Continue-branch-3 g c =
    let inv = c.loop-offset.invariant in
    let form = c.args.form in
    let left = c.loop-offset.offset-iterator in
    let rest = c.next.new.self in
    let site : ℕ × ℕ = (c.in-Some.offset, c.in-Some.target.now) in
    let steps = c.in-Some.ensures.steps in
    let is : is_short form site.0 ≡ true = sym c.is_short.ensures ∙ c.if-is_short.true in
    let typed = λ (pair : ℕ × ℕ). pair.0 < 2 ^ 32 in
    record {
      short = ap (λ xs. xs ++ filter (λ e. is_short form e.0) rest) c.in_ok-push.ensures.items ∙ taken-more (λ e. is_short form e.0) left rest site steps c.loop-offset.short.items _ is inv.short;
      long = taken-same (λ e. not (is_short form e.0)) left rest site steps c.loop-offset.long.items _ (ap not is) inv.long;
      typed_short = subst (All typed) (sym c.in_ok-push.ensures.items) (All-push typed c.loop-offset.short.items site inv.typed_short (first_of (omega arith, search rules)));
      typed_long = inv.typed_long;
    }

pub loop-offset-preserved : goal.loop-offset-preserved
loop-offset-preserved g c =
    let inv = c.loop-offset.invariant in
    let form = c.args.form in
    let left = c.loop-offset.offset-iterator in
    let rest = c.next.new.self in
    let site : ℕ × ℕ = (c.in-Some.offset, c.in-Some.target.now) in
    let steps = c.in-Some.ensures.steps in
    let is : is_short form site.0 ≡ false = sym c.is_short.ensures ∙ c.if-is_short.false in
    let typed = λ (pair : ℕ × ℕ). pair.0 < 2 ^ 32 in
    record {
      short = taken-same (λ e. is_short form e.0) left rest site steps c.loop-offset.short.items _ is inv.short;
      long = ap (λ xs. xs ++ filter (λ e. not (is_short form e.0)) rest) c.in_ok-push-2.ensures.items ∙ taken-more (λ e. not (is_short form e.0)) left rest site steps c.loop-offset.long.items _ (ap not is) inv.long;
      typed_short = inv.typed_short;
      typed_long = subst (All typed) (sym c.in_ok-push-2.ensures.items) (All-push typed c.loop-offset.long.items site inv.typed_long (first_of (omega arith, search rules)));
    }

pub returns-clause-short : goal.returns-clause-short
returns-clause-short g c =
    let xs = c.loop-offset.short.items in
    let ys = c.sort_by_key.new.self.items in
    let whole = all-taken (λ e. is_short c.args.form e.0) xs c.loop-offset.offset-iterator _ c.loop-offset.invariant.short c.in-None.ensures.steps.0 in
    record {
      same = subst (λ (all : List (ℕ × ℕ)). IsPermutation all ys) whole c.sort_by_key.ensures.permutation;
      rise = IsNonDecreasingBy-from_sort_by_key (λ (pair : ℕ × ℕ). pair.1) _ c.in_ok-sort_by_key.ensures.sorted (λ a r q k. search rules);
      kept = λ target. offsets_to-stable xs ys (c.sort_by_key.ensures.stable (λ (pair : ℕ × ℕ). pair.1) (answers_always _ _ _ (λ f a r q k. search rules))) target ∙ ap (offsets_to target) whole;
    }

pub returns-clause-long : goal.returns-clause-long
returns-clause-long g c =
    let xs = c.loop-offset.long.items in
    let ys = c.sort_by_key-2.new.self.items in
    let whole = all-taken (λ e. not (is_short c.args.form e.0)) xs c.loop-offset.offset-iterator _ c.loop-offset.invariant.long c.in-None.ensures.steps.0 in
    record {
      same = subst (λ (all : List (ℕ × ℕ)). IsPermutation all ys) whole c.sort_by_key-2.ensures.permutation;
      rise = IsNonDecreasingBy-from_sort_by_key (λ (pair : ℕ × ℕ). pair.1) _ c.in_ok-sort_by_key-2.ensures.sorted (λ a r q k. search rules);
      kept = λ target. offsets_to-stable xs ys (c.sort_by_key-2.ensures.stable (λ (pair : ℕ × ℕ). pair.1) (answers_always _ _ _ (λ f a r q k. search rules))) target ∙ ap (offsets_to target) whole;
    }

-- those of one block are few
few-taken : (test : ℕ × ℕ → Bool) (limit : ℕ) (xs all : List (ℕ × ℕ)) → xs ≡ filter test all → StandFrom 0 limit all → All (λ (pair : ℕ × ℕ). pair.0 < 2 ^ 32) xs → length xs ≤ 2 ^ 30
few-taken test limit xs all whole stand typed = StandFrom-few limit xs (subst (StandFrom 0 limit) (sym whole) (stand-filter test 0 limit all stand)) typed

pub returns-clause-few : goal.returns-clause-few
returns-clause-few g c =
    let inv = c.loop-offset.invariant in
    let form = c.args.form in
    let sites = c.args.sites.now in
    let none = c.in-None.ensures.steps.0 in
    let short = few-taken (λ e. is_short form e.0) sites.limit c.loop-offset.short.items sites.entries (all-taken (λ e. is_short form e.0) _ c.loop-offset.offset-iterator _ inv.short none) c.walk-offset-items.ensures.apart inv.typed_short in
    let long = few-taken (λ e. not (is_short form e.0)) sites.limit c.loop-offset.long.items sites.entries (all-taken (λ e. not (is_short form e.0)) _ c.loop-offset.offset-iterator _ inv.long none) c.walk-offset-items.ensures.apart inv.typed_long in
    (omega (arith, short, length_permutation _ _ c.sort_by_key.ensures.permutation), omega (arith, long, length_permutation _ _ c.sort_by_key-2.ensures.permutation))
