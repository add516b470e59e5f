-- The heap's `allocate` and `deallocate` at a call through a `&` to its handle: what each is given, that
-- `&` and a token of its lifetime, and what a caller gets back. Assumes `Logic`.
use Rattle.std.proofs.Common.{◌≡◌, ℕ, ◌^◌, ◌<◌, List, [], ◌∷◌, refl, ap, w64}
use seplogic.Ra.Ura.{Ura}
use mir.Syntax.{Ty}
use mir.Val.{Val, vint, vptr, vunit}
use base.Logic.{SProp, ent, ex, emp, guard, sep, id⊢}
use base.Fml.{Lft, Share, Fml, ftrue, fsep, froom, flft}
use prog.Memory.{Memory, size, align, capped}
use prog.Routine.{Routine}
use types.Logic.{Logic, sem}
use contract.Monad.{Fun, fact, fact_i}
use types.Kit.{‵, raw, ◌⊛◌, some, later, ◌$◌, ◌∵◌, !, qed, move, keep, use0, use1, drop, split, join, pick, fjoin, feq_i, feq_l, flt_i, check, show, await, updating, now as at_once, done}
use denote.Builtin.{unit}
use denote.Memory.{hidden_shr}
use denote.Param.Laws.{Laws, of_field}
use denote.Param.Shared.{copy_shared}
use denote.RawPtr.{RawPtr, Ptr, block_ptr}
use denote.Struct.Field.{RawPtr-field}
use denote.Struct.Laws.{RawPtr-laws, RawPtr-copy}
use denote.Steps.{nothing, only}
use denote.Triple.Statement.{Contract}
use denote.Triple.Spec.{triple_of}
use Rattle.std.specs.Allocator.{block_if_ok}
use Rattle.std.proofs.alloc.Calls.{Answer}
use Rattle.std.proofs.result.Result.TheLaws.{the_row_laws as result_laws}
use Rattle.std.proofs.alloc.AllocError.TheLaws.{the_row_laws as error_laws}
use Rattle.std.specs.contracts.alloc.AllocError as error
use Rattle.std.specs.contracts.alloc.Global as global
use Rattle.std.specs.contracts.impls.GlobalAllocator.TheImpl.{ghosts}
use Rattle.std.specs.contracts.impls.GlobalAllocator.allocate as allocates
use Rattle.std.specs.contracts.impls.GlobalAllocator.deallocate as frees

abbrev pub Heap : Type 0
Heap = global.the_row.Denot

-- a `&` to the handle at a place
abbrev pub lent : Lft → ℕ × ℕ → Heap → Fml
lent κ place heap = hidden_shr global.the_row κ heap place.0 place.1

-- what lets a block go back
abbrev pub token : Heap → Ty → Ptr → Fml
token = ghosts.dealloc_token

pub answer_laws : Laws Answer
answer_laws = result_laws RawPtr error.the_row (of_field RawPtr-field RawPtr-laws refl (copy_shared RawPtr-field RawPtr-copy)) error_laws

abbrev pub Sized : Ty → ℕ → ℕ → Type 0
Sized τ n a = (capped (size τ) ≡ n) × (capped (align τ) ≡ a)

module _ {M : Type 1} {𝓤 : Ura M} (𝓛 : Logic 𝓤) (at_mem : Memory → SProp 𝓤) (run : Routine → Fun 𝓤) where
  open 𝓛 use {H, A}

  abbrev pub Allocates : Contract 𝓤
  Allocates = triple_of 𝓛 allocates.signature (allocates.spec 𝓛 at_mem run)

  abbrev pub Frees : Contract 𝓤
  Frees = triple_of 𝓛 frees.signature (frees.spec 𝓛 at_mem run)

  module _ (κ : Lft) (q : Share) (place : ℕ × ℕ) (heap : Heap) (n a : ℕ) (τ : Ty) where
    abbrev pub at_allocates : Allocates.Ghost
    at_allocates = (((κ, tt), (q, tt), tt, (record { ref_ptr = place; now = heap }, (n, (a, tt))), (vptr place.0 place.1 ∷ [], (vint w64 n ∷ [], (vint w64 a ∷ [], tt)))), τ)

    abbrev pub at_frees : ℕ → ℕ → Frees.Ghost
    at_frees b o = (((κ, tt), (q, tt), tt, (record { ref_ptr = place; now = heap }, (block_ptr b o, (n, (a, tt)))), (vptr place.0 place.1 ∷ [], (vptr b o ∷ [], (vint w64 n ∷ [], (vint w64 a ∷ [], tt))))), τ)

    -- a result, and what comes with it
    abbrev pub Told : Val → Answer.Denot → SProp 𝓤
    Told v answer = sep 𝓤 (sem 𝓛 (Answer.own_val answer (v ∷ []))) (sep 𝓤 (sem 𝓛 (block_if_ok (token heap) τ answer)) (A.lft κ q))

    pub Allocates-goes : Sized τ n a → n < 2 ^ 64 → a < 2 ^ 64 → ent 𝓤 (sep 𝓤 (sem 𝓛 (lent κ place heap)) (A.lft κ q)) (Allocates.pre at_allocates)
    Allocates-goes sized n_fits a_fits =
        qed 𝓛 (‵ (lent κ place heap) ∷ ‵ (flft κ q) ∷ []) ∵
        use0 𝓛 (raw (fact 𝓤 (Sized τ n a))) (fact_i 𝓤 (Sized τ n a) (emp 𝓤) sized) $
        nothing ! $ flt_i ! a (2 ^ 64) a_fits $ feq_i ! (List Val) (vint w64 a ∷ []) (vint w64 a ∷ []) refl $ fjoin ! $ fjoin ! $
        flt_i ! n (2 ^ 64) n_fits $ feq_i ! (List Val) (vint w64 n ∷ []) (vint w64 n ∷ []) refl $ fjoin ! $ fjoin ! $
        move ! (2 ∷ []) $ feq_i ! (List Val) (vptr place.0 place.1 ∷ []) (vptr place.0 place.1 ∷ []) refl $ fjoin ! $ fjoin ! $
        nothing ! $ move ! (3 ∷ 0 ∷ []) $ join ! $ join ! $ done !

    pub Allocates-gives : (v : Val) → ent 𝓤 (Allocates.post at_allocates v) (H.⇛ (ex 𝓤 (Told v)))
    Allocates-gives v =
        qed 𝓛 (raw (Allocates.post at_allocates v) ∷ []) ∵ updating ! $
        use1 𝓛 (later (some (λ (answer : Answer.Denot). ((‵ (flft κ q) ⊛ ‵ ftrue) ⊛ ‵ (Answer.own_val answer (v ∷ []))) ⊛
        some (λ (ends : Unit {0} × (Unit {0} × (Unit {0} × Unit {0}))). ‵ (fsep ftrue (fsep ftrue (fsep ftrue ftrue))) ⊛ ‵ (block_if_ok (token heap) τ answer))))) (id⊢ 𝓤 _) $ await ! tt $
        pick ! (λ answer. split ! $ move ! (1 ∷ []) $ pick ! (λ ends. split ! $ drop ! $ move ! (1 ∷ []) $ split ! $ split ! $
        at_once ! $ show ! (Told v) answer $ keep ! (2 ∷ 3 ∷ 0 ∷ []) $ done !))

    abbrev pub block : ℕ → ℕ → Fml
    block b o = fsep (froom τ b o) (token heap τ (block_ptr b o))

    pub Frees-goes : (b o : ℕ) → Sized τ n a → n < 2 ^ 64 → a < 2 ^ 64
        → ent 𝓤 (sep 𝓤 (sem 𝓛 (block b o)) (sep 𝓤 (sem 𝓛 (lent κ place heap)) (A.lft κ q))) (Frees.pre (at_frees b o))
    Frees-goes b o sized n_fits a_fits =
        qed 𝓛 (‵ (block b o) ∷ ‵ (lent κ place heap) ∷ ‵ (flft κ q) ∷ []) ∵
        use0 𝓛 (raw (fact 𝓤 (Sized τ n a))) (fact_i 𝓤 (Sized τ n a) (emp 𝓤) sized) $ join ! $
        nothing ! $ flt_i ! a (2 ^ 64) a_fits $ feq_i ! (List Val) (vint w64 a ∷ []) (vint w64 a ∷ []) refl $ fjoin ! $ fjoin ! $
        flt_i ! n (2 ^ 64) n_fits $ feq_i ! (List Val) (vint w64 n ∷ []) (vint w64 n ∷ []) refl $ fjoin ! $ fjoin ! $
        feq_i ! (List Val) (vptr b o ∷ []) (vptr b o ∷ []) refl $ fjoin ! $
        move ! (2 ∷ []) $ feq_i ! (List Val) (vptr place.0 place.1 ∷ []) (vptr place.0 place.1 ∷ []) refl $ fjoin ! $ fjoin ! $
        nothing ! $ move ! (3 ∷ 0 ∷ []) $ join ! $ join ! $ done !

    pub Frees-gives : (b o : ℕ) (v : Val) → ent 𝓤 (Frees.post (at_frees b o) v) (H.⇛ (guard 𝓤 (v ≡ vunit) (A.lft κ q)))
    Frees-gives b o v =
        qed 𝓛 (raw (Frees.post (at_frees b o) v) ∷ []) ∵ updating ! $
        use1 𝓛 (later (some (λ (nil : Unit {0}). ((‵ (flft κ q) ⊛ ‵ ftrue) ⊛ ‵ (unit.own_val nil (v ∷ []))) ⊛
        some (λ (ends : Unit {0} × (Unit {0} × (Unit {0} × (Unit {0} × Unit {0})))). ‵ (fsep ftrue (fsep ftrue (fsep ftrue (fsep ftrue ftrue)))) ⊛ ‵ ftrue)))) (id⊢ 𝓤 _) $ await ! tt $
        pick ! (λ nil. split ! $ split ! $ move ! (1 ∷ []) $ feq_l ! (λ is. split ! $
        at_once ! $ check ! (ap only is) $ keep ! (0 ∷ []) $ done !))
