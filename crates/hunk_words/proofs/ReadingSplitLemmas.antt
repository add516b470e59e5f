-- What is read in parts: the stack between them, and the fields in each.
use Rattle.std.proofs.Common.{◌≡◌, ℕ, suc, ◌/◌, ◌%◌, ◌^◌, List, [], ◌∷◌, ◌++◌, length, drop, refl, ap, sym, subst, ◌∙◌}
use Rattle.std.proofs.Math.Seq.{drop-append_seam}
use Rattle.hunk_words.specs.Kinds.{Kind, Width, Field, field, width, flip}
use Rattle.hunk_words.specs.FaultTable.{Passes}
use Rattle.hunk_words.specs.Kinds.Width.{long, half}
use Rattle.hunk_words.specs.declared.kinds.Half.{Half}
use Rattle.hunk_words.specs.declared.kinds.Half.TheVariants.{Upper as upper, Lower as lower}
use Rattle.hunk_words.specs.FieldLongwords.{fields_from, fields_in, fields_after}
use Rattle.hunk_words.specs.Machine.{due, next, push, Takes}
use Rattle.hunk_words.specs.Reading.{word_next, Reads, word_labels, labels}
use Rattle.hunk_words.proofs.FieldLongwordsAlignmentLemmas.{starts_at, next_at, Aligned, aligned-push}

-- ---- one after another

pub reads-behind : (ws us : List ℕ) (s m e : List Kind) → Reads s (ws ++ us) e → Reads s ws m → Reads m us e
reads-behind [] us s m e r q = subst (λ x. Reads x us e) q r
reads-behind (w ∷ ws) us s m e r q = reads-behind ws us _ m e r.1 q.1

pub reads-join : (ws us : List ℕ) (s m e : List Kind) → Reads s ws m → Reads m us e → Reads s (ws ++ us) e
reads-join [] us s m e q r = subst (λ x. Reads x us e) (sym q) r
reads-join (w ∷ ws) us s m e q r = (q.0, reads-join ws us _ m e q.1 r)

pub reads-split : (ws us : List ℕ) (s e : List Kind) → Reads s (ws ++ us) e → (m : List Kind) × Reads s ws m
reads-split [] us s e r = (s, refl)
reads-split (w ∷ ws) us s e r = let m = reads-split ws us _ e r.1 in (m.0, (r.0, m.1))

pub reads-one : (ws : List ℕ) (s m e : List Kind) → Reads s ws m → Reads s ws e → m ≡ e
reads-one [] s m e q r = sym q ∙ r
reads-one (w ∷ ws) s m e q r = reads-one ws _ m e q.1 r.1

pub takes-behind : (fs gs : List Field) (s m e : List Kind) → Takes s (fs ++ gs) e → Takes s fs m → Takes m gs e
takes-behind [] gs s m e t q = subst (λ x. Takes x gs e) q t
takes-behind (f ∷ fs) gs [] m e t q = absurd q
takes-behind (f ∷ fs) gs (k ∷ s) m e t q = takes-behind fs gs _ m e t.2 q.2

-- the first field that is taken
pub takes-due : (s : List Kind) (f : Field) (fs : List Field) (e : List Kind) → Takes s (f ∷ fs) e → (f.kind ≡ due s) × Passes (due s) f.number
takes-due [] f fs e t = absurd t
takes-due (k ∷ s) f fs e t = (t.0, t.1)

-- ---- from a whole longword to a whole longword

-- where halves are expected at a whole longword, the upper one is
pub upper-due : (k : Kind) (s : List Kind) (h : Half) → width k ≡ half h → Aligned upper (k ∷ s) → h ≡ upper
upper-due k s h is a = sym (ap (λ w. starts_at w) is) ∙ a.0

pub aligned-upper : (k : Kind) (s : List Kind) (h : Half) (n : ℕ) → width k ≡ half h → Aligned upper (k ∷ s) → Aligned lower (push k n s)
aligned-upper k s h n is a =
    subst (λ x. Aligned (flip x) (push k n s)) (upper-due k s h is a) (subst (λ w. Aligned (next_at w) (push k n s)) is (aligned-push k n s a.1))

-- where a stack begins at a lower half, a lower half is expected
width-lower : (w : Width) → starts_at w ≡ lower → w ≡ half lower
width-lower long h = absurd (cc)
width-lower (half h) e = ap (λ x. half x) e

pub lower-due : (s : List Kind) → Aligned lower s → width (due s) ≡ half lower
lower-due [] a = absurd (cc)
lower-due (k ∷ s) a = width-lower (width k) a.0

aligned-lower : (s : List Kind) (n : ℕ) → Aligned lower s → Aligned upper (next s n)
aligned-lower [] n a = absurd (cc)
aligned-lower (k ∷ s) n a = subst (λ w. Aligned (next_at w) (push k n s)) (width-lower (width k) a.0) (aligned-push k n s a.1)

aligned-word : (w : Width) (k : Kind) (s : List Kind) (n : ℕ) → width k ≡ w → Aligned upper (k ∷ s) → Aligned upper (word_next w (k ∷ s) n)
aligned-word long k s n is a = subst (λ w. Aligned (next_at w) (push k n s)) is (aligned-push k n s a.1)
aligned-word (half h) k s n is a = aligned-lower (push k (n / 2 ^ 16) s) (n % 2 ^ 16) (aligned-upper k s h (n / 2 ^ 16) is a)

pub aligned-reads : (ws : List ℕ) (s m : List Kind) → Reads s ws m → Aligned upper s → Aligned upper m
aligned-reads [] s m r a = subst (λ x. Aligned upper x) r a
aligned-reads (w ∷ ws) [] m r a = aligned-reads ws [] m r.1 refl
aligned-reads (w ∷ ws) (k ∷ s) m r a = aligned-reads ws _ m r.1 (aligned-word (width k) k s w refl a)

-- ---- labels

word_labels-append : (w : Width) (s : List Kind) (n : ℕ) (fs gs : List Field) → word_labels w s n (fs ++ gs) ≡ word_labels w s n fs ++ gs
word_labels-append long s n fs gs = refl
word_labels-append (half h) s n fs gs = refl

pub labels-append : (ws us : List ℕ) (s m : List Kind) → Reads s ws m → labels s (ws ++ us) ≡ labels s ws ++ labels m us
labels-append [] us s m r = ap (λ x. labels x us) r
labels-append (w ∷ ws) us s m r =
    let t : List Kind = word_next (width (due s)) s w in
    ap (λ x. word_labels (width (due s)) s w x) (labels-append ws us t m r.1) ∙ word_labels-append (width (due s)) s w (labels t ws) (labels m us)

-- the fields of the first longword and of n more
abbrev fields_at : Width → ℕ → Field → List Field → List Field
fields_at w n f fs = elim w [ long ↦ f ∷ fields_from upper n fs | half h ↦ f ∷ fields_from lower n fs ]

fields_in-word : (w : Width) (s : List Kind) (v n : ℕ) (fs gs : List Field) → width (due s) ≡ w → fields_in n fs ≡ gs → fields_in (suc n) (word_labels w s v fs) ≡ word_labels w s v gs
fields_in-word long s v n fs gs is e = ap (λ w. fields_at w n (field (due s) v) fs) is ∙ ap (λ x. field (due s) v ∷ x) e
fields_in-word (half h) s v n fs gs is e =
    let f : Field = field (due s) (v / 2 ^ 16) in
    let g : Field = field (due (next s (v / 2 ^ 16))) (v % 2 ^ 16) in
    ap (λ w. fields_at w n f (g ∷ fs)) is ∙ ap (λ x. f ∷ g ∷ x) e

-- The fields in the first longwords are their labels.
pub fields_in-labels : (ws us : List ℕ) (s : List Kind) → fields_in (length ws) (labels s (ws ++ us)) ≡ labels s ws
fields_in-labels [] us s = refl
fields_in-labels (w ∷ ws) us s =
    let t : List Kind = word_next (width (due s)) s w in
    fields_in-word (width (due s)) s w (length ws) (labels t (ws ++ us)) (labels t ws) refl (fields_in-labels ws us t)

pub fields_behind-labels : (ws us : List ℕ) (s m : List Kind) → Reads s ws m → fields_after (length ws) (labels s (ws ++ us)) ≡ labels m us
fields_behind-labels ws us s m r =
    ap (λ x. drop (length x) (labels s (ws ++ us))) (fields_in-labels ws us s)
    ∙ ap (λ x. drop (length (labels s ws)) x) (labels-append ws us s m r)
    ∙ drop-append_seam (labels s ws) (labels m us)
