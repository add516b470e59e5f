use Rattle.std.proofs.Common.{ℕ, ◌≤◌, List, [], ◌∷◌, ◌++◌, length, ap, subst}
use Rattle.std.proofs.lemmas.Result.{on_ok_weaker, on_err_weaker}
use Rattle.hunk_base.specs.Name.{most_name}
use Rattle.hunk_base.specs.OpenName.{bytes_so_far}
use Rattle.hunk_objects.specs.OpenHunk.{UnitHunkSoFar}
use Rattle.hunk_objects.proofs.OpenHunkLemmas.{Symbols-more}
use Rattle.hunk_objects.proofs.open_hunk.OpenHunk.add_symbol.Goals as goal

abbrev with_symbol : {A : Type 0} → UnitHunkSoFar A → List ℕ × ℕ → UnitHunkSoFar A
with_symbol hunk symbol = record hunk { debug_info = record hunk.debug_info { symbols = hunk.debug_info.symbols ++ (symbol ∷ []) } }

pub invariant_of-self : goal.invariant_of-self
invariant_of-self g c = (
  c.self.invariant.0,
  c.self.invariant.1,
  Symbols-more (λ (symbol : List ℕ × ℕ). length symbol.0 ≤ most_name) _ _ _ c.add_symbol.result c.add_symbol.ensures.adds c.add_symbol.ensures.refused
      (subst (λ count. count ≤ most_name) c.len.ensures c.if-len-gt-MOST_NAME.false) c.self.invariant.2,
)

pub returns-clause-adds : goal.returns-clause-adds
returns-clause-adds g c = on_ok_weaker c.add_symbol.result (λ is. rw is (ap (λ (h : UnitHunkSoFar g.row.A.Denot). with_symbol h (bytes_so_far c.args.name.now, c.args.value)) c.self.view_is)) c.add_symbol.ensures.adds

pub returns-clause-refused : goal.returns-clause-refused
returns-clause-refused g c = on_err_weaker c.add_symbol.result (λ is. rw is c.self.view_is) c.add_symbol.ensures.refused
