-- `refuses_next` at a call: what it is given, a `&` to the counts and a token of its lifetime, and
-- what a caller gets back, some result and the token. The counter is a cell, so nothing is known of
-- the result.
use Rattle.std.proofs.Common.{◌≡◌, ℕ, List, [], ◌∷◌, Bool, refl, ap}
use seplogic.Ra.Ura.{Ura}
use mir.Val.{Val, vbool, vptr}
use base.Logic.{SProp, ent, ex, guard, sep, id⊢}
use base.Fml.{Lft, Share, Fml, ftrue, fsep, flft}
use prog.Memory.{Memory}
use prog.Routine.{Routine}
use types.Logic.{Logic, sem}
use contract.Monad.{Fun}
use types.Kit.{‵, raw, ◌⊛◌, some, later, ◌$◌, ◌∵◌, !, qed, move, keep, use1, split, join, pick, fjoin, feq_i, feq_l, check, show, await, updating, now as at_once, done}
use denote.Memory.{hidden_shr}
use denote.Builtin.{bool}
use denote.Steps.{nothing, only}
use denote.Triple.Statement.{Contract}
use denote.Triple.Spec.{triple_of}
use Rattle.hunk_test_support.specs.declared.refusing.Growths.{Growths}
use Rattle.hunk_test_support.specs.contracts.refusing.Growths as growths
use Rattle.hunk_test_support.specs.contracts.refusing.Growths.refuses_next as f

-- a `&` to the counts at a place
abbrev pub lent : Lft → ℕ × ℕ → Growths → Fml
lent κ place g = hidden_shr growths.the_row κ g place.0 place.1

module _ {M : Type 1} {𝓤 : Ura M} (𝓛 : Logic 𝓤) (at_mem : Memory → SProp 𝓤) (run : Routine → Fun 𝓤) where
  open 𝓛 use {H, A}

  abbrev pub Asks : Contract 𝓤
  Asks = triple_of 𝓛 f.signature (f.spec 𝓛 at_mem run)

  module _ (κ : Lft) (q : Share) (place : ℕ × ℕ) (g : Growths) where
    abbrev pub at_asks : Asks.Ghost
    at_asks = (((κ, tt), (q, tt), tt, (record { ref_ptr = place; now = g }, tt), (vptr place.0 place.1 ∷ [], tt)), tt)

    -- some result, and the token
    abbrev pub Told : Val → Bool → SProp 𝓤
    Told v answer = guard 𝓤 (v ≡ vbool answer) (A.lft κ q)

    pub Asks-goes : ent 𝓤 (sep 𝓤 (sem 𝓛 (lent κ place g)) (A.lft κ q)) (Asks.pre at_asks)
    Asks-goes =
        qed 𝓛 (‵ (lent κ place g) ∷ ‵ (flft κ q) ∷ []) ∵
        feq_i ! (List Val) (vptr place.0 place.1 ∷ []) (vptr place.0 place.1 ∷ []) refl $ fjoin ! $
        nothing ! $ move ! (1 ∷ []) $ fjoin ! $
        nothing ! $ move ! (2 ∷ []) $ join ! $ join ! $
        nothing ! $ move ! (1 ∷ []) $ done !

    pub Asks-gives : (v : Val) → ent 𝓤 (Asks.post at_asks v) (H.⇛ (ex 𝓤 (Told v)))
    Asks-gives v =
        qed 𝓛 (raw (Asks.post at_asks v) ∷ []) ∵ updating ! $
        use1 𝓛 (later (some (λ (answer : Bool). ((‵ (flft κ q) ⊛ ‵ ftrue) ⊛ ‵ (bool.own_val answer (v ∷ []))) ⊛
        some (λ (ends : Unit {0} × Unit {0}). ‵ (fsep ftrue ftrue) ⊛ ‵ ftrue)))) (id⊢ 𝓤 _) $ await ! tt $
        pick ! (λ answer. split ! $ split ! $ move ! (1 ∷ []) $ feq_l ! (λ is. split ! $
        at_once ! $ show ! (Told v) answer $ check ! (ap only is) $ keep ! (0 ∷ []) $ done !))
