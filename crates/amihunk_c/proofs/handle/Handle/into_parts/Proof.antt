-- `into_parts` hands out what a handle owns: nothing at null, and else the parts of a box.
use mathlib.Core.Path.{◌≡◌, refl, sym, subst}
use mathlib.Core.List.{List, [], ◌∷◌, ◌++◌}
use lib.Dec.{T, lit<}
use seplogic.Ra.Ura.{Ura}
use mir.Raw.{raw as bare}
use mir.Val.{Val, WT, has_ty, vnull, vstruct, vcons, vnil, of_list}
use base.Logic.{SProp, ent, emp, guard, guard_i, id⊢}
use base.Fml.{ftrue, fsep}
use prog.Memory.{Memory}
use prog.Routine.{Routine}
use prog.Wp.{WpFn, Tables}
use types.Logic.{Logic, sem}
use contract.Monad.{Fun, fact_use}
use contract.Running.{tables, tables_of}
use sound.WpLaws.{WpFn-mono}
use types.Kit.{Item, at_ret, given, ‵, raw, ◌⊛◌, ◌$◌, ◌∵◌, !, qed, by, move, drop, keep, learn, use0, use1, join, split, fsplit, fjoin, fpick, feq_l, suffices, done}
use types.Match.{live}
use types.Part.{whole, sub, agg}
use types.Run.{lit, bin, stop, fld, no_more, and_then, of_opd, first, branches, exec, returns, enter}
use types.ByLocal.{alloc_all, pass_all, free_all, look_at, get, get_in, sets, sets_last, env}
use denote.Exit.{yes}
use denote.Param.{layout}
use denote.RattleType.{RattleType}
use denote.RawPtr.{Ptr, Testable, block_ptr, null_ptr, ptr_val, tests_null}
use denote.Signature.{type_at}
use denote.Steps.{nothing}
use denote.Triple.Spec.{triple_of}
use denote.Triple.Table.{entered}
use denote.Triple.Walked.{says, Stays, stay_dropped, walk_of, ends_at, Goes-dropped, walk_Meets}
use Rattle.std.specs.Prelude.{Option, None, Some}
use Rattle.core.proofs.alloc.Calls.{token, handle_tells}
use Rattle.core.proofs.alloc.Shapes.{after}
use Rattle.core.proofs.option.Made.{Some-of, none_of}
use Rattle.std.proofs.GlobalToken.{dealloc_token-Testable}
use Rattle.std_alloc.proofs.BoxSteps.Form.{D, B, τ, handle, word, box_typed}
use Rattle.std_alloc.proofs.BoxSteps.Steps.{box_out, box_in}
use Rattle.std_alloc.proofs.ResultValues.{and_tt}
use Rattle.std_heap.specs.contracts.Global as Heap
use Rattle.std_heap.specs.contracts.GlobalAllocator.TheImpl.{ghosts}
use Rattle.amihunk_c.proofs.HandleLemmas.{E, FromHandle as From}
use Rattle.amihunk_c.specs.contracts.session.Session as Session
use Rattle.amihunk_c.specs.contracts.handle.Handle as Handle
use Rattle.amihunk_c.specs.contracts.handle.parts.Parts as Parts
use Rattle.amihunk_c.specs.contracts.handle.Handle.into_parts as F
use Rattle.amihunk_c.specs.contracts.handle.Handle.into_parts.Key.{name as #self}
use Rattle.amihunk_c.proofs.handle.Handle.into_parts.Statement as stated
use Rattle.amihunk_c.proofs.handle.Handle.into_parts.Code as code

abbrev stayed : Stays (F.ended).signature.params (F.ended).kept
stayed = (stay_dropped From yes, tt)

abbrev Taken : RattleType
Taken = Parts.the_row Session.the_row Heap.the_row ghosts

module _ {M : Type 1} {𝓤 : Ura M} (𝓛 : Logic 𝓤) (at_mem : Memory → SProp 𝓤) (run : Routine → Fun 𝓤) (𝓣 : Tables 𝓤 𝓛.H) where
  open 𝓛 use {H}

  -- a pointer that the allocator may free can be compared with null
  tested : (a : Heap.the_row.Denot) (p : Ptr) → ent 𝓤 (sem 𝓛 (token E.al a (bare (τ E)) p)) (guard 𝓤 (Testable p) (sem 𝓛 (token E.al a (bare (τ E)) p)))
  tested a p = fact_use 𝓤 (Testable p) (dealloc_token-Testable 𝓛 a (bare (τ E)) p) (guard_i 𝓤 (Testable p) (sem 𝓛 (token E.al a (bare (τ E)) p)))

  module _ (z : (walk_of 𝓛 F.ended stayed (F.clauses 𝓛 at_mem run)).Ghost) where
    abbrev d : Handle.the_row.Denot
    d = z.0.3.0

    abbrev Post : Val → SProp 𝓤
    Post = (walk_of 𝓛 F.ended stayed (F.clauses 𝓛 at_mem run)).post z

    abbrev Out : RattleType
    Out = type_at (F.signature).result tt

    abbrev Runs : List Val → SProp 𝓤
    Runs vs = WpFn 𝓤 H 𝓣.C 𝓣.Λ code.function (vs ++ []) Post

    goes : (s : Option Session.the_row.Denot) → d.session ≡ s → ent 𝓤 (sem 𝓛 (Handle.the_row.own_val (record d { session = s }) z.0.4.0)) (Runs z.0.4.0)
    goes None is =
        qed 𝓛 (‵ (Handle.the_row.own_val (record d { session = None }) z.0.4.0) ∷ []) ∵
        fsplit ! $ fpick ! (λ vss. fsplit ! $ feq_l ! (λ ev. fsplit ! $ feq_l ! (λ ep. fsplit ! $ handle_tells E.al ! d.alloc vss.1.0 (λ hv ea fa. move ! (2 ∷ []) $ fpick ! (λ null. move ! (1 ∷ []) $ keep ! (0 ∷ []) $
        let w = vstruct (vcons vnull (vcons hv vnil)) in
        let typed : T (has_ty (layout Handle.the_row) w) × WT w = (and_tt _ fa.0, (record { fits = lit< tt }, (fa.1, tt))) in
        let ws : z.0.4.0 ≡ w ∷ [] =
        subst (λ (p : Ptr). z.0.4.0 ≡ vstruct (of_list (ptr_val p ∷ hv ∷ [])) ∷ []) null
        (subst (λ (us : List Val). z.0.4.0 ≡ vstruct (of_list (ptr_val d.ptr ∷ (us ++ []))) ∷ []) ea (subst (λ (ps : List Val). z.0.4.0 ≡ vstruct (of_list (ps ++ (vss.1.0 ++ []))) ∷ []) ep ev)) in
        let Γ : List (Item 𝓤) = ‵ (handle E d.alloc hv) ∷ [] in
        by ! (subst (λ (us : List Val). ent 𝓤 (types.Kit.⋆ 𝓛 Γ) (Runs us)) (sym ws)
        (qed 𝓛 Γ ∵ enter ! 𝓣.C 𝓣.Λ code.function (w ∷ []) _ $ alloc_all ! (λ ls. pass_all ! refl (typed, tt) $ let Ev = env (code.function).locals ls in
        sets ! (of_opd ! (get_in ! (fld ! refl (stop !)) (sub ! 0 refl (whole !)))) refl (tt, record { fits = lit< tt }) $ sets ! (of_opd ! (get_in ! (fld ! refl (stop !)) (sub ! 1 refl (whole !)))) refl fa $
        sets ! (bin ! (get ! refl) (lit ! tt) (tests_null null_ptr (lit< tt))) refl (tt, tt) $ first ! $ branches ! (get ! refl)
        (λ _. sets_last ! (agg ! (and_then ! (lit ! tt) (no_more !))) refl (tt, (record { fits = lit< tt }, tt)) $ exec ! 𝓣.C 𝓣.Λ Ev (after 4 (code.function).body) (at_ret Ev Post) $
        sets ! (of_opd ! (get ! refl)) refl (tt, (record { fits = lit< tt }, tt)) $ use0 𝓛 (‵ (Out.own_val None (live 0 vnil ∷ []))) (none_of 𝓛 Taken) $
        returns ! (look_at ! 0 refl) $ free_all ! refl $ keep ! (0 ∷ []) $
        suffices ! _ (ends_at 𝓛 F.ended stayed (F.clauses 𝓛 at_mem run) z (live 0 vnil) None (tt, tt) (tt, tt)) $ says ! is $
        nothing ! $ nothing ! $ fjoin ! $ join ! $ nothing ! $ join ! $ done !) (λ wrong. absurd wrong)))))))))
    goes (Some x) is =
        let v : D E = record { ptr = d.ptr; alloc = d.alloc; value = x } in
        let made : Taken.Denot = record { ptr = d.ptr; alloc = d.alloc; value = x } in
        qed 𝓛 (‵ ((B E).own_val v z.0.4.0) ∷ []) ∵ box_out E ! v z.0.4.0 (λ b o hv e ws fa. move ! (1 ∷ []) $
        use1 𝓛 (given (Testable (block_ptr b o)) (‵ (token E.al d.alloc (bare (τ E)) (block_ptr b o)))) (tested d.alloc (block_ptr b o)) $ learn ! (λ may. move ! (1 ∷ []) $
        box_in E ! v b o x e refl $ use1 𝓛 (‵ (Taken.own_val made (word E hv b o ∷ []))) (id⊢ 𝓤 _) $ keep ! (0 ∷ []) $
        let w = word E hv b o in
        let typed = box_typed E hv b o fa in
        let out : Val = live 1 (of_list (w ∷ [])) in
        let good : T (has_ty (layout Out) out) × WT out = (and_tt _ typed.0, (record { fits = lit< tt }, (typed.1, tt))) in
        let Γ : List (Item 𝓤) = ‵ (Taken.own_val made (w ∷ [])) ∷ [] in
        by ! (subst (λ (us : List Val). ent 𝓤 (types.Kit.⋆ 𝓛 Γ) (Runs us)) (sym ws)
        (qed 𝓛 Γ ∵ enter ! 𝓣.C 𝓣.Λ code.function (w ∷ []) _ $ alloc_all ! (λ ls. pass_all ! refl (typed, tt) $ let Ev = env (code.function).locals ls in
        sets ! (of_opd ! (get_in ! (fld ! refl (stop !)) (sub ! 0 refl (whole !)))) refl (tt, tt) $ sets ! (of_opd ! (get_in ! (fld ! refl (stop !)) (sub ! 1 refl (whole !)))) refl fa $
        sets ! (bin ! (get ! refl) (lit ! tt) (tests_null (block_ptr b o) may)) refl (tt, tt) $ first ! $ branches ! (get ! refl) (λ wrong. absurd wrong)
        (λ _. sets ! (of_opd ! (get ! refl)) refl (tt, tt) $ sets ! (agg ! (and_then ! (get ! refl) (and_then ! (get ! refl) (no_more !)))) refl typed $
        sets_last ! (agg ! (and_then ! (lit ! tt) (and_then ! (get ! refl) (no_more !)))) refl good $ exec ! 𝓣.C 𝓣.Λ Ev (after 4 (code.function).body) (at_ret Ev Post) $
        sets ! (of_opd ! (get ! refl)) refl good $ use1 𝓛 (‵ (Out.own_val (Some made) (out ∷ []))) (Some-of 𝓛 Taken made w) $
        returns ! (look_at ! 0 refl) $ free_all ! refl $
        suffices ! _ (ends_at 𝓛 F.ended stayed (F.clauses 𝓛 at_mem run) z out (Some made) (tt, tt) (tt, tt)) $ says ! is $
        nothing ! $ nothing ! $ fjoin ! $ join ! $ nothing ! $ join ! $ done !))))))

  walk : (z : (walk_of 𝓛 F.ended stayed (F.clauses 𝓛 at_mem run)).Ghost)
      → ent 𝓤 ((walk_of 𝓛 F.ended stayed (F.clauses 𝓛 at_mem run)).pre z) (WpFn 𝓤 H 𝓣.C 𝓣.Λ code.function (z.0.4.0 ++ []) ((walk_of 𝓛 F.ended stayed (F.clauses 𝓛 at_mem run)).post z))
  walk z =
      qed 𝓛 ((‵ ftrue ⊛ ‵ (fsep (Handle.the_row.own_val z.0.3.0 z.0.4.0) ftrue)) ∷ raw (emp 𝓤) ∷ []) ∵ split ! $ drop ! $ fsplit ! $ keep ! (0 ∷ []) $ by ! (goes z z.0.3.0.session refl)

pub into_parts_spec : {M : Type 1} → stated.statement M
unfolding tables_of
into_parts_spec 𝓤 𝓛 𝓜 𝓡 wired =
    let 𝓣 : Tables 𝓤 𝓛.H = tables_of 𝓤 𝓛.H 𝓜 (tables 𝓤 𝓛.H 𝓜 𝓡 𝓡.env) in
    entered 𝓤 𝓛.H (triple_of 𝓛 F.signature (F.spec 𝓛 𝓜.mem 𝓡.returns)) 𝓣.C 𝓣.Λ #self code.function (code.unfolded 𝓤 𝓛.H 𝓜 𝓡 wired)
    (walk_Meets 𝓛 F.ended stayed (Goes-dropped 𝓛 0 From yes (λ κs x f. refl), tt) (F.clauses 𝓛 𝓜.mem 𝓡.returns) (WpFn 𝓤 𝓛.H 𝓣.C 𝓣.Λ code.function) (WpFn-mono 𝓤 𝓛.H 𝓛.laws 𝓣 code.function)
    (walk 𝓛 𝓜.mem 𝓡.returns 𝓣))
