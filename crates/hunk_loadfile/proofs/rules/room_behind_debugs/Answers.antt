use Rattle.std.proofs.Common.{◌≡◌, ◌+◌, ◌∙◌, ◌-◌, ◌<◌, ◌≤◌, length, List, Vec, ℕ, arith, sum_by, take, get_or, subst, sym, ap}
use Rattle.std.proofs.lemmas.Grind.{common_steps}
use Rattle.std.specs.List.{All}
use Rattle.std.proofs.lemmas.List.Elements.{All-map, All-more}
use Rattle.std.proofs.lemmas.List.{take_all}
use Rattle.std.proofs.lemmas.List.Sums.{sum_by_more}
use Rattle.hunk_loadfile.specs.Rules.{IsLongword, debug_longwords}
use Rattle.hunk_loadfile.proofs.rules.room_behind_debugs.Goals as goal

step : {A : Type 0} (left count room i : ℕ) (xs : List (Vec ℕ A)) (x : Vec ℕ A) (debug : List ℕ) → i < length xs → x ≡ get_or xs i x → debug ≡ x.items
    → count ≡ debug_longwords debug → All IsLongword debug → count ≤ left
    → left + sum_by (λ v. debug_longwords v.items) (take i xs) ≡ room → All (λ v. All IsLongword v.items) (take i xs)
    → (left - count + sum_by (λ v. debug_longwords v.items) (take (i + 1) xs) ≡ room) × All (λ v. All IsLongword v.items) (take (i + 1) xs)
step {A} left count room i xs x debug within is same counted typed fits so_far all =
    let cost : Vec ℕ A → ℕ = λ v. debug_longwords v.items in
    let P : Vec ℕ A → Type 0 = λ v. All IsLongword v.items in
    let more = sum_by_more cost xs i x within in
    let here : cost (get_or xs i x) ≡ count = ap cost (sym is) ∙ ap debug_longwords (sym same) ∙ sym counted in
    (omega (arith, more, here), All-more P xs i x within all (subst P is (subst (All IsLongword) same typed)))

pub loop-debug-preserved : goal.loop-debug-preserved
loop-debug-preserved g c =
    let next = step c.loop-debug.left c.debug_longwords-count.result c.args.room c.loop-debug.debug-index c.args.debugs.now c.debug-item.result c.deref.result.now c.loop-debug-test.true c.debug-item.is c.deref.ensures.value c.debug_longwords-count.ensures.count c.debug_longwords-count.ensures.typed c.if-left-count.false c.loop-debug.invariant.room c.loop-debug.invariant.typed in
    record { room = next.0; typed = next.1 }

pub returns-clause-typed : goal.returns-clause-typed
returns-clause-typed g c =
    let P : Vec ℕ g.row.A.Denot → Type 0 = λ v. All IsLongword v.items in
    let whole = take_all c.loop-debug.debug-index c.args.debugs.now c.loop-debug-test.false in
    All-map (All IsLongword) (λ (v : Vec ℕ g.row.A.Denot). v.items) c.args.debugs.now (subst (All P) whole c.loop-debug.invariant.typed)

-- `grind` at once: `search`, which Rattle tries before it, is slow here
pub returns-then-left-count-clause-room : goal.returns-then-left-count-clause-room
returns-then-left-count-clause-room g c = grind (arith, common_steps)

pub returns-clause-room : goal.returns-clause-room
returns-clause-room g c = grind (arith, common_steps)
