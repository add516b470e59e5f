-- It returns `Err` if this allocation is to fail, and otherwise what the heap returns.
-- Assumes `Logic`.
use Rattle.std.proofs.Common.{◌≡◌, ℕ, ◌+◌, ◌^◌, ◌<◌, Bool, false, List, [], ◌∷◌, Err, refl, w64, Bor}
use seplogic.Ra.Ura.{Ura}
use mir.Syntax.{Ty}
use mir.Val.{Val, vbool, vint, vptr}
use base.Logic.{SProp, ent, id⊢}
use base.Fml.{Lft, Share, ftrue, flft}
use prog.Memory.{Memory, size, align, up}
use prog.Routine.{Routine}
use prog.Wp.{Env, WpFn, Tables}
use types.Logic.{Logic}
use contract.Monad.{Fun, fact}
use contract.Running.{tables, tables_of}
use sound.WpLaws.{fm_of, WpFn-mono}
use types.Kit.{‵, raw, ◌⊛◌, some, given, later, mean, at_ret, ◌$◌, ◌∵◌, !, qed, by, move, keep, use0, use1, use2, split, pick, learn, join, fsplit, fjoin, suffices, await, done}
use types.Part.{agg}
use types.Run.{stop, fld, addr, lit, no_more, and_then, first, branches, skips, exec, returns, returns_within, enter}
use types.ByLocal.{alloc_all, pass_all, free_all, look_at, get, through, sets, lands_as, env}
use denote.Builtin.{usize, RefOf}
use denote.Exit.{yes}
use denote.Laws.{Is, shows}
use denote.Opens.{unhide}
use denote.Param.{layout}
use denote.Plain.{uint_vals, uint_Tells}
use denote.RattleType.{owns}
use denote.Ref.{shr_vals}
use denote.Signature.{Slot, plain, types_at}
use denote.Steps.{heard, nothing, peeks}
use denote.Triple.Call.{calls_at}
use denote.Triple.Clauses.{Clauses}
use denote.Triple.Spec.{triple_of}
use denote.Triple.Statement.{Triple}
use denote.Triple.Table.{entered, cited}
use denote.Triple.Walked.{Stays, stay_dropped, walk_of, ends_at, walked, Goes-dropped, walk_Meets}
use Rattle.std.proofs.alloc.Calls.{Answer, answer_val, Answer-typed, Answer-err}
use Rattle.std.proofs.alloc.Shapes.{after}
use Rattle.std.specs.Allocator.{block_if_ok}
use Rattle.std.specs.contracts.alloc.Global as global
use Rattle.std.proofs.impls.GlobalAllocator.allocate.Symbol as allocating
use Rattle.std.proofs.impls.GlobalAllocator.allocate.Met as allocated
use Rattle.hunk_test_support.proofs.HeapSteps.{Heap, lent, token, answer_laws, Sized, Allocates, at_allocates, Allocates-goes, Allocates-gives}
use Rattle.hunk_test_support.proofs.RefusingSteps.{Asks, at_asks, Asks-goes, Asks-gives}
use Rattle.hunk_test_support.proofs.refusing.Growths.refuses_next.Symbol as asking
use Rattle.hunk_test_support.proofs.refusing.Growths.refuses_next.Met as asked
use Rattle.hunk_test_support.specs.declared.refusing.Growths.{Growths}
use Rattle.hunk_test_support.specs.contracts.refusing.Refusing as refusing
use Rattle.hunk_test_support.specs.contracts.refusing.RefusingAllocator.allocate as f
use Rattle.hunk_test_support.specs.contracts.refusing.RefusingAllocator.allocate.Key as key
use Rattle.hunk_test_support.proofs.refusing.RefusingAllocator.allocate.Statement.{statement}
use Rattle.hunk_test_support.proofs.refusing.RefusingAllocator.allocate.Code as code

abbrev self : Slot 1
self = RefOf (0 ∷ []) tt (plain (λ _. refusing.the_row)) (λ _. tt)

abbrev stayed : Stays f.ended.signature.params f.ended.kept
stayed = (stay_dropped self yes, (stay_dropped (plain (λ _. usize)) yes, (stay_dropped (plain (λ _. usize)) yes, tt)))

module _ {M : Type 1} {𝓤 : Ura M} (𝓛 : Logic 𝓤) (at_mem : Memory → SProp 𝓤) (run : Routine → Fun 𝓤) (𝓣 : Tables 𝓤 𝓛.H)
    (inner : Triple 𝓤 (𝓣.C allocating.name) (Allocates 𝓛 at_mem run)) (asks : Triple 𝓤 (𝓣.C asking.name) (Asks 𝓛 at_mem run)) where
  open 𝓛 use {H, A}

  abbrev held : Clauses 𝓤 f.ended
  held = f.clauses 𝓛 at_mem run

  module _ (κ : Lft) (q : Share) (r : Bor refusing.the_row.Denot) (n a : ℕ) (τ : Ty) where
    abbrev bound : (walk_of 𝓛 f.ended stayed held).Ghost
    bound = (((κ, tt), (q, tt), tt, (r, (n, (a, tt))), (shr_vals r, (vint w64 n ∷ [], (vint w64 a ∷ [], tt)))), τ)

    abbrev given_values : List Val
    given_values = vptr r.ref_ptr.0 r.ref_ptr.1 ∷ vint w64 n ∷ vint w64 a ∷ []

    abbrev Post : Val → SProp 𝓤
    Post = (walk_of 𝓛 f.ended stayed held).post bound

    abbrev heap : Heap
    heap = r.now.inner

    -- the way out: a result, what comes with it, and the token
    gives : (v : Val) (answer : Answer.Denot) → ent 𝓤 (mean 𝓛 (‵ (Answer.own_val answer (v ∷ [])) ⊛ (‵ (block_if_ok (token heap) τ answer) ⊛ ‵ (flft κ q)))) (Post v)
    gives v answer =
        qed 𝓛 (‵ (Answer.own_val answer (v ∷ [])) ∷ ‵ (block_if_ok (token heap) τ answer) ∷ ‵ (flft κ q) ∷ []) ∵
        suffices ! _ (ends_at 𝓛 f.ended stayed held bound v answer (tt, (tt, (tt, tt))) (tt, (tt, (tt, tt)))) $
        nothing ! $ nothing ! $ fjoin ! $ nothing ! $ fjoin ! $ nothing ! $ fjoin ! $ join ! $
        nothing ! $ move ! (3 ∷ 0 ∷ []) $ join ! $ join ! $ done !

    refuses : ent 𝓤 (A.lft κ q) (Post (answer_val false 0 0))
    refuses =
        qed 𝓛 (‵ (flft κ q) ∷ []) ∵ nothing ! $
        use0 𝓛 (‵ (Answer.own_val (Err (record {})) (answer_val false 0 0 ∷ []))) (Answer-err 𝓛) $
        by ! (gives (answer_val false 0 0) (Err (record {})))

    walk : n < 2 ^ 64 → a < 2 ^ 64 → ent 𝓤 ((walk_of 𝓛 f.ended stayed held).pre bound) (WpFn 𝓤 H 𝓣.C 𝓣.Λ code.function given_values Post)
    walk n_fits a_fits =
        let place : ℕ × ℕ = (r.ref_ptr.0, r.ref_ptr.1 + up (align (layout global.the_row)) 0) in
        let beside : ℕ × ℕ = (r.ref_ptr.0, r.ref_ptr.1 + up 8 (up (align (layout global.the_row)) 0 + size (layout global.the_row))) in
        let g : Growths = r.now.growths in
        qed 𝓛 (((‵ (flft κ q) ⊛ ‵ ftrue) ⊛ ‵ (owns (types_at f.ended.signature.params (κ, tt)) bound.0.3 bound.0.4)) ∷ raw (fact 𝓤 (Sized τ n a)) ∷ []) ∵
        move ! (1 ∷ []) $ heard ! (Sized τ n a) (λ sized.
        split ! $ split ! $ move ! (2 ∷ []) $ fsplit ! $ fsplit ! $ move ! (1 ∷ []) $ unhide ! $ fsplit ! $ fsplit ! $
        use1 𝓛 (‵ (lent κ place heap)) (id⊢ 𝓤 _) $ move ! (1 ∷ []) $ fsplit ! $ keep ! (0 ∷ 6 ∷ 2 ∷ []) $
        -- [the counts; the token; the handle]
        enter ! 𝓣.C 𝓣.Λ code.function given_values _ $
        alloc_all ! (λ l. pass_all ! refl ((tt, tt), ((tt, record { fits = n_fits }), ((tt, record { fits = a_fits }), tt))) $
        let E : Env 𝓤 H = env code.function.locals l in
        sets ! (addr ! (through ! refl (fld ! refl (stop !)))) refl (tt, tt) $
        use2 𝓛 (raw ((Asks 𝓛 at_mem run).pre (at_asks 𝓛 at_mem run κ q beside g))) (Asks-goes 𝓛 at_mem run κ q beside g) $
        calls_at ! (fm_of 𝓤 H 𝓛.laws 𝓣) (Asks 𝓛 at_mem run) asks (at_asks 𝓛 at_mem run κ q beside g) (and_then ! (get ! refl) (no_more !)) (λ u.
        use1 𝓛 (later (some (λ (answer : Bool). given (u ≡ vbool answer) (‵ (flft κ q))))) (Asks-gives 𝓛 at_mem run κ q beside g u) $ await ! tt $
        pick ! (λ answer. learn ! (λ is. lands_as ! is refl (tt, tt) $
        -- [the token; the handle]
        first ! $ branches ! (get ! refl)
        (λ refused. sets ! (agg ! (no_more !)) refl (tt, tt) $
        sets ! (agg ! (and_then ! (lit ! tt) (and_then ! (get ! refl) (no_more !)))) refl (Answer-typed false 0 0) $
        returns_within ! Post refl (look_at ! 0 refl) $ free_all ! refl $ keep ! (0 ∷ []) $ by ! refuses)
        (λ passed. skips ! $ exec ! 𝓣.C 𝓣.Λ E (after 3 code.function.body) (at_ret E Post) $
        sets ! (addr ! (through ! refl (fld ! refl (stop !)))) refl (tt, tt) $
        move ! (1 ∷ 0 ∷ []) $
        use2 𝓛 (raw ((Allocates 𝓛 at_mem run).pre (at_allocates 𝓛 at_mem run κ q place heap n a τ))) (Allocates-goes 𝓛 at_mem run κ q place heap n a τ sized n_fits a_fits) $
        calls_at ! (fm_of 𝓤 H 𝓛.laws 𝓣) (Allocates 𝓛 at_mem run) inner (at_allocates 𝓛 at_mem run κ q place heap n a τ) (and_then ! (get ! refl) (and_then ! (get ! refl) (and_then ! (get ! refl) (no_more !)))) (λ v.
        use1 𝓛 (later (some (λ (answer : Answer.Denot). ‵ (Answer.own_val answer (v ∷ [])) ⊛ (‵ (block_if_ok (token heap) τ answer) ⊛ ‵ (flft κ q))))) (Allocates-gives 𝓛 at_mem run κ q place heap n a τ v) $ await ! tt $
        pick ! (λ answer. split ! $ peeks ! Answer (Is Answer) (shows 𝓛 Answer) answer (v ∷ []) (λ is. move ! (1 ∷ []) $ split ! $ move ! (2 ∷ 0 ∷ 1 ∷ []) $
        lands_as ! refl refl ((answer_laws.lawful 𝓛).typed answer (v ∷ []) is).0 $ returns ! (look_at ! 0 refl) $ free_all ! refl $ by ! (gives v answer))))))))))

pub allocate_spec : {M : Type 1} → statement M
unfolding tables_of
allocate_spec 𝓤 𝓛 𝓜 𝓡 wired =
    let 𝓣 : Tables 𝓤 𝓛.H = tables_of 𝓤 𝓛.H 𝓜 (tables 𝓤 𝓛.H 𝓜 𝓡 𝓡.env) in
    let c = f.clauses 𝓛 𝓜.mem 𝓡.returns in
    let number = Goes-dropped 𝓛 1 (plain (λ _. usize)) yes (λ κs x w. refl) in
    entered 𝓤 𝓛.H (triple_of 𝓛 f.signature (f.spec 𝓛 𝓜.mem 𝓡.returns)) 𝓣.C 𝓣.Λ key.name code.function (code.unfolded 𝓤 𝓛.H 𝓜 𝓡 wired)
    (walk_Meets 𝓛 f.ended stayed (Goes-dropped 𝓛 1 self yes (λ κs x w. refl), (number, (number, tt))) c (WpFn 𝓤 𝓛.H 𝓣.C 𝓣.Λ code.function) (WpFn-mono 𝓤 𝓛.H 𝓛.laws 𝓣 code.function)
    (walked 𝓛 f.ended stayed c (WpFn 𝓤 𝓛.H 𝓣.C 𝓣.Λ code.function) (λ κs. (shr_vals, (uint_vals w64, (uint_vals w64, tt)))) (λ κs. ((λ r vs s. s.0), (uint_Tells w64, (uint_Tells w64, tt))))
    (λ κs qs bounds a τ are. walk 𝓛 𝓜.mem 𝓡.returns 𝓣
    (cited 𝓤 𝓛.H _ 𝓜 𝓡 𝓡.env allocating.name (𝓡.env allocating.name) refl (allocated.met 𝓤 𝓛 𝓜 𝓡 (code.calls-std_heap::GlobalAllocator::allocate 𝓡.env wired)))
    (cited 𝓤 𝓛.H _ 𝓜 𝓡 𝓡.env asking.name (𝓡.env asking.name) refl (asked.met 𝓤 𝓛 𝓜 𝓡 (code.calls-hunk_test_support::refusing::Growths::refuses_next 𝓡.env wired)))
    κs.0 qs.0 a.0 a.1.0 a.1.1.0 τ are.1.0.1 are.1.1.0.1)))
