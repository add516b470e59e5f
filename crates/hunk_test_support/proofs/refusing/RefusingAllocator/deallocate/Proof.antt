-- It returns the block to the heap. Assumes `Logic`.
use Rattle.std.proofs.Common.{◌≡◌, ℕ, ◌+◌, ◌^◌, ◌<◌, List, [], ◌∷◌, refl, w64, Bor}
use seplogic.Ra.Ura.{Ura}
use mir.Syntax.{Ty}
use mir.Val.{Val, vint, vptr, vunit}
use base.Logic.{SProp, ent, id⊢, never_e}
use base.Fml.{Lft, Share, ftrue, ffalse, fsep, flft}
use prog.Memory.{Memory, align, up}
use prog.Routine.{Routine}
use prog.Wp.{WpFn, Tables}
use types.Logic.{Logic}
use contract.Monad.{Fun, fact}
use contract.Running.{tables, tables_of}
use sound.WpLaws.{fm_of, WpFn-mono}
use types.Kit.{Item, ‵, raw, ◌⊛◌, later, given, ◌$◌, ◌∵◌, !, qed, by, move, keep, use1, use2, split, join, learn, fsplit, fjoin, feq_i, suffices, await, done}
use types.Run.{stop, fld, addr, no_more, and_then, of_opd, unit_lit, returns, enter}
use types.ByLocal.{alloc_all, pass_all, free_all, look_at, get, through, sets, lands_as}
use denote.Builtin.{usize, RawPtr, RefOf}
use denote.Exit.{yes}
use denote.Opens.{unhide}
use denote.Param.{layout}
use denote.Plain.{uint_vals, uint_Tells}
use denote.RattleType.{owns}
use denote.RawPtr.{Ptr, ptr_val, block_ptr, null_ptr, rawptr_vals, rawptr_Tells}
use denote.Ref.{shr_vals}
use denote.Signature.{Slot, plain, types_at}
use denote.Steps.{heard, nothing}
use denote.Triple.Call.{calls_at}
use denote.Triple.Clauses.{Clauses}
use denote.Triple.Spec.{triple_of}
use denote.Triple.Statement.{Triple}
use denote.Triple.Table.{entered, cited}
use denote.Triple.Walked.{Stays, stay_dropped, walk_of, ends_at, walked, Goes-dropped, walk_Meets}
use Rattle.std.specs.contracts.alloc.Global as global
use Rattle.std.proofs.impls.GlobalAllocator.deallocate.Symbol as freeing
use Rattle.std.proofs.impls.GlobalAllocator.deallocate.Met as freed
use Rattle.hunk_test_support.proofs.HeapSteps.{Heap, lent, token, Sized, Frees, at_frees, block, Frees-goes, Frees-gives}
use Rattle.hunk_test_support.specs.contracts.refusing.Refusing as refusing
use Rattle.hunk_test_support.specs.contracts.refusing.RefusingAllocator.deallocate as f
use Rattle.hunk_test_support.specs.contracts.refusing.RefusingAllocator.deallocate.Key as key
use Rattle.hunk_test_support.proofs.refusing.RefusingAllocator.deallocate.Statement.{statement}
use Rattle.hunk_test_support.proofs.refusing.RefusingAllocator.deallocate.Code as code

abbrev self : Slot 1
self = RefOf (0 ∷ []) tt (plain (λ _. refusing.the_row)) (λ _. tt)

abbrev stayed : Stays f.ended.signature.params f.ended.kept
stayed = (stay_dropped self yes, (stay_dropped (plain (λ _. RawPtr)) yes, (stay_dropped (plain (λ _. usize)) yes, (stay_dropped (plain (λ _. usize)) yes, tt))))

module _ {M : Type 1} {𝓤 : Ura M} (𝓛 : Logic 𝓤) (at_mem : Memory → SProp 𝓤) (run : Routine → Fun 𝓤) (𝓣 : Tables 𝓤 𝓛.H)
    (inner : Triple 𝓤 (𝓣.C freeing.name) (Frees 𝓛 at_mem run)) where
  open 𝓛 use {H}

  abbrev held : Clauses 𝓤 f.ended
  held = f.clauses 𝓛 at_mem run

  module _ (κ : Lft) (q : Share) (r : Bor refusing.the_row.Denot) (n a : ℕ) (τ : Ty) where
    abbrev bound : Ptr → (walk_of 𝓛 f.ended stayed held).Ghost
    bound x = (((κ, tt), (q, tt), tt, (r, (x, (n, (a, tt)))), (shr_vals r, (rawptr_vals x, (vint w64 n ∷ [], (vint w64 a ∷ [], tt))))), τ)

    abbrev given_values : Ptr → List Val
    given_values x = vptr r.ref_ptr.0 r.ref_ptr.1 ∷ ptr_val x ∷ vint w64 n ∷ vint w64 a ∷ []

    abbrev Post : Ptr → Val → SProp 𝓤
    Post x = (walk_of 𝓛 f.ended stayed held).post (bound x)

    abbrev entry : Ptr → Item 𝓤
    entry x = (‵ (flft κ q) ⊛ ‵ ftrue) ⊛ ‵ (owns (types_at f.ended.signature.params (κ, tt)) (bound x).0.3 (bound x).0.4)

    abbrev sizes : Item 𝓤
    sizes = raw (fact 𝓤 (Sized τ n a))

    -- nothing lies at null
    walk : n < 2 ^ 64 → a < 2 ^ 64 → (x : Ptr) → ent 𝓤 ((walk_of 𝓛 f.ended stayed held).pre (bound x)) (WpFn 𝓤 H 𝓣.C 𝓣.Λ code.function (given_values x) (Post x))
    walk n_fits a_fits null_ptr =
        qed 𝓛 (entry null_ptr ∷ sizes ∷ ‵ (fsep ffalse (token r.now.inner τ null_ptr)) ∷ []) ∵
        move ! (2 ∷ []) $ fsplit ! $ keep ! (0 ∷ []) $ by ! (never_e 𝓤 _)
    walk n_fits a_fits (block_ptr b o) =
        let heap : Heap = r.now.inner in
        let place : ℕ × ℕ = (r.ref_ptr.0, r.ref_ptr.1 + up (align (layout global.the_row)) 0) in
        let x : Ptr = block_ptr b o in
        qed 𝓛 (entry x ∷ sizes ∷ ‵ (block 𝓛 at_mem run κ q place heap n a τ b o) ∷ []) ∵
        move ! (1 ∷ []) $ heard ! (Sized τ n a) (λ sized.
        split ! $ split ! $ move ! (2 ∷ []) $ fsplit ! $ fsplit ! $ move ! (1 ∷ []) $ unhide ! $ fsplit ! $ fsplit ! $
        use1 𝓛 (‵ (lent κ place heap)) (id⊢ 𝓤 _) $ move ! (1 ∷ []) $ fsplit ! $ keep ! (2 ∷ 6 ∷ 8 ∷ []) $
        -- [the handle; the token; the block and the right to free it]
        enter ! 𝓣.C 𝓣.Λ code.function (given_values x) _ $
        alloc_all ! (λ l. pass_all ! refl ((tt, tt), ((tt, tt), ((tt, record { fits = n_fits }), ((tt, record { fits = a_fits }), tt)))) $
        sets ! (addr ! (through ! refl (fld ! refl (stop !)))) refl (tt, tt) $ join ! $ move ! (1 ∷ []) $
        use2 𝓛 (raw ((Frees 𝓛 at_mem run).pre (at_frees 𝓛 at_mem run κ q place heap n a τ b o))) (Frees-goes 𝓛 at_mem run κ q place heap n a τ b o sized n_fits a_fits) $
        calls_at ! (fm_of 𝓤 H 𝓛.laws 𝓣) (Frees 𝓛 at_mem run) inner (at_frees 𝓛 at_mem run κ q place heap n a τ b o) (and_then ! (get ! refl) (and_then ! (get ! refl) (and_then ! (get ! refl) (and_then ! (get ! refl) (no_more !))))) (λ v.
        use1 𝓛 (later (given (v ≡ vunit) (‵ (flft κ q)))) (Frees-gives 𝓛 at_mem run κ q place heap n a τ b o v) $ await ! tt $ learn ! (λ is_unit.
        lands_as ! is_unit refl (tt, tt) $
        sets ! (of_opd ! (unit_lit !)) refl (tt, tt) $ returns ! (look_at ! 0 refl) $ free_all ! refl $
        suffices ! _ (ends_at 𝓛 f.ended stayed held (bound x) vunit tt (tt, (tt, (tt, (tt, tt)))) (tt, (tt, (tt, (tt, tt))))) $
        nothing ! $ feq_i ! (List Val) (vunit ∷ []) (vunit ∷ []) refl $ nothing ! $
        nothing ! $ fjoin ! $ nothing ! $ fjoin ! $ nothing ! $ fjoin ! $ nothing ! $ fjoin ! $ join ! $
        nothing ! $ move ! (3 ∷ 0 ∷ []) $ join ! $ join ! $ done !))))

pub deallocate_spec : {M : Type 1} → statement M
unfolding tables_of
deallocate_spec 𝓤 𝓛 𝓜 𝓡 wired =
    let 𝓣 : Tables 𝓤 𝓛.H = tables_of 𝓤 𝓛.H 𝓜 (tables 𝓤 𝓛.H 𝓜 𝓡 𝓡.env) in
    let c = f.clauses 𝓛 𝓜.mem 𝓡.returns in
    let number = Goes-dropped 𝓛 1 (plain (λ _. usize)) yes (λ κs x w. refl) in
    entered 𝓤 𝓛.H (triple_of 𝓛 f.signature (f.spec 𝓛 𝓜.mem 𝓡.returns)) 𝓣.C 𝓣.Λ key.name code.function (code.unfolded 𝓤 𝓛.H 𝓜 𝓡 wired)
    (walk_Meets 𝓛 f.ended stayed
    (Goes-dropped 𝓛 1 self yes (λ κs x w. refl), (Goes-dropped 𝓛 1 (plain (λ _. RawPtr)) yes (λ κs x w. refl), (number, (number, tt))))
    c (WpFn 𝓤 𝓛.H 𝓣.C 𝓣.Λ code.function) (WpFn-mono 𝓤 𝓛.H 𝓛.laws 𝓣 code.function)
    (walked 𝓛 f.ended stayed c (WpFn 𝓤 𝓛.H 𝓣.C 𝓣.Λ code.function)
    (λ κs. (shr_vals, (rawptr_vals, (uint_vals w64, (uint_vals w64, tt))))) (λ κs. ((λ r vs s. s.0), (rawptr_Tells, (uint_Tells w64, (uint_Tells w64, tt)))))
    (λ κs qs bounds a τ are. walk 𝓛 𝓜.mem 𝓡.returns 𝓣
    (cited 𝓤 𝓛.H _ 𝓜 𝓡 𝓡.env freeing.name (𝓡.env freeing.name) refl (freed.met 𝓤 𝓛 𝓜 𝓡 (code.calls-std_heap::GlobalAllocator::deallocate 𝓡.env wired)))
    κs.0 qs.0 a.0 a.1.1.0 a.1.1.1.0 τ are.1.1.0.1 are.1.1.1.0.1 a.1.0)))
