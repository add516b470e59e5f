-- What each piece adds to what a writer took, and what is known of what was read.
use Rattle.std.proofs.Common.{◌≡◌, ◌<◌, ◌+◌, ◌-◌, ℕ, zero, suc, List, length, take, drop, refl, sym, subst, arith, length-drop, Ok, false, Option}
use Rattle.std.proofs.lemmas.List.{take_all}
use Rattle.std.proofs.Math.Seq.{take-add}
use Rattle.std.specs.Io.KnownBytes.{Appends}
use Rattle.std.proofs.KnownBytes.{Appends-trans}
use Rattle.hunk_base.specs.Streams.{HasRead, refuses}

-- A write that took a byte or more did not fail.
pub refuses-some : (E : Type 0) (count len : ℕ) → 0 < count → refuses {E = E} (Ok count) len ≡ false
refuses-some E zero len some = absurd (omega arith)
refuses-some E (suc count) len some = refl

-- The first bytes of the rest come after the first bytes.
pub Appends-take : (before between now : Option (List ℕ)) (text : List ℕ) (done count : ℕ)
    → Appends before between (take done text)
    → Appends between now (take count (take (length text - done) (drop done text)))
    → Appends before now (take (done + count) text)
Appends-take before between now text done count front rest =
    let whole : take (length text - done) (drop done text) ≡ drop done text = take_all _ _ (omega (arith, length-drop done text)) in
    let next : Appends between now (take count (drop done text)) = subst (λ xs. Appends between now (take count xs)) whole rest in
    subst (Appends before now) (sym (take-add done count text)) (Appends-trans before between now _ _ front next)

-- What holds of all bytes of which this holds, holds of those that were read.
pub HasRead-weaker : (old new : Option (List ℕ)) (P Q : List ℕ → Type 0) → ((bytes : List ℕ) → P bytes → Q bytes) → HasRead old new P → HasRead old new Q
HasRead-weaker old new P Q weaker read = record { bytes = read.bytes; consumed = read.consumed; holds = weaker read.bytes read.holds }
