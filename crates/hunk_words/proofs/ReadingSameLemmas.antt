-- The fields that the machine takes are the labels of their longwords. So the same longwords have the same fields.
use Rattle.std.proofs.Common.{◌≡◌, ℕ, ◌+◌, ◌*◌, ◌/◌, ◌%◌, ◌^◌, ◌<◌, List, [], ◌∷◌, Some, refl, ap, sym, subst, ◌∙◌}
use Rattle.std.proofs.lemmas.Nat.{mod-mul-add, div-mul-add}
use Rattle.hunk_words.specs.Kinds.{Width, Kind, Field, bound, field, width}
use Rattle.hunk_words.specs.Kinds.Width.{long, half}
use Rattle.hunk_words.specs.Kinds.Kind.{object_start, load_start, unit_type}
use Rattle.hunk_words.specs.declared.kinds.Half.{Half}
use Rattle.hunk_words.specs.declared.kinds.Half.TheVariants.{Upper as upper, Lower as lower}
use Rattle.hunk_words.specs.Machine.{push, due, next, Takes}
use Rattle.hunk_words.specs.FieldLongwords.{longwords_after, longwords_of}
use Rattle.hunk_words.specs.Reading.{word_next, word_labels, labels}
use Rattle.hunk_words.specs.Trees.{ObjectTree, LoadTree}
use Rattle.hunk_words.specs.Spelling.{object_spelling, load_spelling, ObjectFits, LoadFits}
use Rattle.hunk_words.specs.Laws.{ObjectSame, LoadSame}
use Rattle.hunk_words.proofs.SpellingTakenLemmas.{object-taken, load-taken}
use Rattle.hunk_words.proofs.FieldLongwordsAlignmentLemmas.{starts_at, next_at, Aligned, aligned-push}
use Rattle.hunk_words.proofs.ReadingLemmas.{aligned-one}

-- Fields from an upper half on are the labels of their longwords, and from a lower half on with the upper one that waits.
abbrev pub Told : Half → List Kind → List Field → Type 0
Told upper s fs = labels s (longwords_of fs) ≡ fs
Told lower s fs = (before : List Kind) (h : Half) (m : ℕ) → width (due before) ≡ half h → next before m ≡ s
    → labels before (longwords_after (Some m) fs) ≡ field (due before) m ∷ fs

told-upper : (v : Width) (k : Kind) (n : ℕ) (s : List Kind) (fs : List Field) → width k ≡ v → starts_at v ≡ upper → Told (next_at v) (push k n s) fs
    → labels (k ∷ s) (longwords_of (field k n ∷ fs)) ≡ field k n ∷ fs
told-upper long k n s fs is first told = rw is (rw is (ap (λ q. field k n ∷ q) told))
told-upper (half upper) k n s fs is first told = rw is (told (k ∷ s) upper n is refl)
told-upper (half lower) k n s fs is first told = absurd (cc)

word-div : (m n : ℕ) → n < 2 ^ 16 → (m * 2 ^ 16 + n) / 2 ^ 16 ≡ m
word-div m n h = div-mul-add m (2 ^ 16) n h

word-mod : (m n : ℕ) → n < 2 ^ 16 → (m * 2 ^ 16 + n) % 2 ^ 16 ≡ n
word-mod m n h = mod-mul-add m (2 ^ 16) n h

told-lower : (v : Width) (k : Kind) (n : ℕ) (s : List Kind) (fs : List Field) → width k ≡ v → starts_at v ≡ lower → n < bound v → Told (next_at v) (push k n s) fs
    → Told lower (k ∷ s) (field k n ∷ fs)
told-lower (half lower) k n s fs is first fits told before h m waits reached =
    let ws = longwords_of fs in
    let w = m * 2 ^ 16 + n in
    ap (λ v. word_labels v before w (labels (word_next v before w) ws)) waits
    ∙ (ap (λ q. field (due before) q ∷ field (due (next before q)) (w % 2 ^ 16) ∷ labels (next (next before q) (w % 2 ^ 16)) ws) (word-div m n fits)
    ∙ (ap (λ q. field (due before) m ∷ field (due (next before m)) q ∷ labels (next (next before m) q) ws) (word-mod m n fits)
    ∙ (ap (λ q. field (due before) m ∷ field (due q) n ∷ labels (next q n) ws) reached
    ∙ ap (λ q. field (due before) m ∷ field k n ∷ q) told)))
told-lower (half upper) k n s fs is first fits told before h m waits reached = absurd (cc)
told-lower long k n s fs is first fits told before h m waits reached = absurd (cc)

told : (h : Half) (fs : List Field) (s e : List Kind) → Takes s fs e → Aligned h s → Aligned upper e → Told h s fs
told upper [] s e t a b = refl
told lower [] s e t a b = absurd (aligned-one e (subst (λ q. Aligned lower q) t a) b)
told upper (f ∷ fs) [] e t a b = absurd t
told lower (f ∷ fs) [] e t a b = absurd t
told upper (f ∷ fs) (k ∷ s) e t a b =
    subst (λ q. Told upper (k ∷ s) (field q f.number ∷ fs)) (sym t.0)
    (told-upper (width k) k f.number s fs refl a.0 (told (next_at (width k)) fs (push k f.number s) e t.2 (aligned-push k f.number s a.1) b))
told lower (f ∷ fs) (k ∷ s) e t a b =
    subst (λ q. Told lower (k ∷ s) (field q f.number ∷ fs)) (sym t.0)
    (told-lower (width k) k f.number s fs refl a.0 t.1.fits (told (next_at (width k)) fs (push k f.number s) e t.2 (aligned-push k f.number s a.1) b))

pub labels-longwords : (fs : List Field) (s e : List Kind) → Takes s fs e → Aligned upper s → Aligned upper e → labels s (longwords_of fs) ≡ fs
labels-longwords fs s e t a b = told upper fs s e t a b

pub object-labels : (t : ObjectTree) → ObjectFits t → labels (object_start ∷ []) (longwords_of (object_spelling t)) ≡ object_spelling t
object-labels t fits = labels-longwords (object_spelling t) (object_start ∷ []) (unit_type ∷ []) (object-taken t fits) (refl, refl) (refl, refl)

pub load-labels : (t : LoadTree) → LoadFits t → labels (load_start ∷ []) (longwords_of (load_spelling t)) ≡ load_spelling t
load-labels t fits = labels-longwords (load_spelling t) (load_start ∷ []) [] (load-taken t fits) (refl, refl) refl

pub object-same : ObjectSame
object-same t u fits too e = sym (object-labels t fits) ∙ (ap (λ ws. labels (object_start ∷ []) ws) e ∙ object-labels u too)

pub load-same : LoadSame
load-same t u fits too e = sym (load-labels t fits) ∙ (ap (λ ws. labels (load_start ∷ []) ws) e ∙ load-labels u too)
