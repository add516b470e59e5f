-- What is taken, field by field, is read, longword by longword.
use Rattle.std.proofs.Common.{◌≡◌, ℕ, ◌+◌, ◌*◌, ◌/◌, ◌%◌, ◌^◌, ◌<◌, List, [], ◌∷◌, Some, None, refl, ap, sym, subst, ◌∙◌, rules}
use Rattle.std.proofs.lemmas.Nat.{mod-mul-add, div-mul-add}
use Rattle.hunk_words.specs.Kinds.{Kind, Field, Width, field, bound, width, flip}
use Rattle.hunk_words.specs.FaultTable.{Passes}
use Rattle.hunk_words.specs.Kinds.Width.{long, half}
use Rattle.hunk_words.specs.declared.kinds.Half.TheVariants.{Upper as upper, Lower as lower}
use Rattle.hunk_words.specs.FieldLongwords.{longwords_after, longwords_of}
use Rattle.hunk_words.specs.Machine.{due, next, push, Takes}
use Rattle.hunk_words.specs.Reading.{word_next, WordPasses, Reads}
use Rattle.hunk_words.proofs.FieldLongwordsAlignmentLemmas.{starts_at, next_at, Aligned, aligned-push}

-- ---- one longword

pub reads-long : (k : Kind) (n : ℕ) (s : List Kind) (ws : List ℕ) (e : List Kind)
    → width k ≡ long → Passes k n → Reads (push k n s) ws e → Reads (k ∷ s) (n ∷ ws) e
reads-long k n s ws e is p r = subst (λ v. WordPasses v (k ∷ s) n × Reads (word_next v (k ∷ s) n) ws e) (sym is) (p, r)

abbrev HalvesPass : List Kind → ℕ → ℕ → List ℕ → List Kind → Type 0
HalvesPass s m n ws e = (Passes (due s) m × Passes (due (next s m)) n) × Reads (next (next s m) n) ws e

pub reads-halves : (k l : Kind) (m n : ℕ) (s t : List Kind) (ws : List ℕ) (e : List Kind)
    → width k ≡ half upper → push k m s ≡ l ∷ t → width l ≡ half lower → Passes k m → Passes l n → Reads (push l n t) ws e → Reads (k ∷ s) ((m * 2 ^ 16 + n) ∷ ws) e
reads-halves k l m n s t ws e k_is pushed l_is p q r =
    let below : n < 2 ^ 16 = subst (λ v. n < bound v) l_is q.fits in
    let both : HalvesPass (k ∷ s) m n ws e = ((p, subst (λ u. Passes (due u) n) (sym pushed) q), subst (λ u. Reads (next u n) ws e) (sym pushed) r) in
    let upper_is : HalvesPass (k ∷ s) ((m * 2 ^ 16 + n) / 2 ^ 16) n ws e = subst (λ x. HalvesPass (k ∷ s) x n ws e) (sym (div-mul-add m (2 ^ 16) n below)) both in
    let lower_is : HalvesPass (k ∷ s) ((m * 2 ^ 16 + n) / 2 ^ 16) ((m * 2 ^ 16 + n) % 2 ^ 16) ws e = subst (λ x. HalvesPass (k ∷ s) ((m * 2 ^ 16 + n) / 2 ^ 16) x ws e) (sym (mod-mul-add m (2 ^ 16) n below)) upper_is in
    subst (λ v. WordPasses v (k ∷ s) (m * 2 ^ 16 + n) × Reads (word_next v (k ∷ s) (m * 2 ^ 16 + n)) ws e) (sym k_is) lower_is

upper-not-lower : upper ≡ lower → ⊥
upper-not-lower h = search rules

-- ---- all of them: from a whole longword on, and after an upper half

abbrev pub FromUpper : List Field → List Kind → Type 0
FromUpper fs e = (s : List Kind) → Aligned upper s → Takes s fs e → Reads s (longwords_after None fs) e

abbrev pub FromLower : List Field → List Kind → Type 0
FromLower fs e = (k : Kind) (m : ℕ) (s t : List Kind) → width k ≡ half upper → Passes k m → push k m s ≡ t → Aligned lower t → Takes t fs e → Reads (k ∷ s) (longwords_after (Some m) fs) e

-- the first field of a stack's top kind, from a whole longword on
upper-step : (v : Width) (k : Kind) (n : ℕ) (fs : List Field) (s e : List Kind) → FromUpper fs e → FromLower fs e
    → width k ≡ v → starts_at v ≡ upper → Aligned (next_at v) (push k n s) → Passes k n → Takes (push k n s) fs e
    → Reads (k ∷ s) (longwords_after None (field k n ∷ fs)) e
upper-step long k n fs s e up down is start a p t = rw is (reads-long k n s (longwords_after None fs) e is p (up (push k n s) a t))
upper-step (half h) k n fs s e up down is start a p t =
    rw is (down k n s (push k n s) (is ∙ ap half start) p refl (subst (λ x. Aligned (flip x) (push k n s)) start a) t)

-- the same after an upper half
lower-step : (v : Width) (k l : Kind) (m n : ℕ) (fs : List Field) (s t e : List Kind) → FromUpper fs e
    → width k ≡ half upper → Passes k m → push k m s ≡ l ∷ t
    → width l ≡ v → starts_at v ≡ lower → Aligned (next_at v) (push l n t) → Passes l n → Takes (push l n t) fs e
    → Reads (k ∷ s) (longwords_after (Some m) (field l n ∷ fs)) e
lower-step long k l m n fs s t e up k_is p pushed is start a q r = absurd (upper-not-lower start)
lower-step (half h) k l m n fs s t e up k_is p pushed is start a q r =
    reads-halves k l m n s t (longwords_after None fs) e k_is pushed (is ∙ ap half start) p q (up (push l n t) (subst (λ x. Aligned (flip x) (push l n t)) start a) r)

from-upper : (f : Field) (fs : List Field) (e : List Kind) → FromUpper fs e → FromLower fs e → FromUpper (f ∷ fs) e
from-upper f fs e up down [] a t = absurd t
from-upper f fs e up down (k ∷ s) a t =
    subst (λ q. Aligned upper (q ∷ s) → Passes q f.number → Takes (push q f.number s) fs e → Reads (q ∷ s) (longwords_after None (f ∷ fs)) e) t.0
    (λ b p r. upper-step (width f.kind) f.kind f.number fs s e up down refl b.0 (aligned-push f.kind f.number s b.1) p r) a t.1 t.2

from-lower : (f : Field) (fs : List Field) (e : List Kind) → FromUpper fs e → FromLower (f ∷ fs) e
from-lower f fs e up k m s [] is p pushed a t = absurd t
from-lower f fs e up k m s (l ∷ u) is p pushed a t =
    subst (λ q. push k m s ≡ q ∷ u → Aligned lower (q ∷ u) → Passes q f.number → Takes (push q f.number u) fs e → Reads (k ∷ s) (longwords_after (Some m) (f ∷ fs)) e) t.0
    (λ b c q r. lower-step (width f.kind) k f.kind m f.number fs s u e up is p b refl c.0 (aligned-push f.kind f.number u c.1) q r) pushed a t.1 t.2

-- no stack starts at both halves
pub aligned-one : (s : List Kind) → Aligned lower s → Aligned upper s → ⊥
aligned-one [] a b = upper-not-lower (sym a)
aligned-one (k ∷ s) a b = upper-not-lower (sym b.0 ∙ a.0)

both-halves : (fs : List Field) (e : List Kind) → Aligned upper e → FromUpper fs e × FromLower fs e
both-halves [] e end = (λ s a t. t, λ k m s t is p pushed a taken. absurd (aligned-one e (subst (λ q. Aligned lower q) taken a) end))
both-halves (f ∷ fs) e end =
    let behind : FromUpper fs e × FromLower fs e = both-halves fs e end in
    (from-upper f fs e behind.0 behind.1, from-lower f fs e behind.0)

-- What is taken is read.
pub taken-read : (s : List Kind) (fs : List Field) (e : List Kind) → Aligned upper s → Aligned upper e → Takes s fs e → Reads s (longwords_of fs) e
taken-read s fs e a b t = (both-halves fs e b).0 s a t
