-- What is read is taken as its labels, and its labels have its longwords. So it is the spelling of
-- a tree where a file may end.
use Rattle.std.proofs.Common.{◌≡◌, ℕ, ◌+◌, ◌*◌, ◌/◌, ◌%◌, ◌^◌, List, [], ◌∷◌, Some, None, refl, ap, sym, subst, ◌∙◌, arith}
use Rattle.hunk_words.specs.Kinds.{Width, Kind, Field, field, width}
use Rattle.hunk_words.specs.FaultTable.{Passes, AllPass}
use Rattle.hunk_words.specs.Kinds.Width.{long, half}
use Rattle.hunk_words.specs.Kinds.Kind.{object_start, load_start}
use Rattle.hunk_words.specs.Machine.{due, next, Takes}
use Rattle.hunk_words.specs.FieldLongwords.{longwords_after, longwords_of}
use Rattle.hunk_words.specs.Reading.{WordPasses, Reads, word_next, word_labels, labels}
use Rattle.hunk_words.specs.Laws.{ReadIsObject, ReadIsLoad}
use Rattle.hunk_words.specs.Trees.{ObjectTree, LoadTree}
use Rattle.hunk_words.specs.Spelling.{object_spelling, load_spelling}
use Rattle.hunk_words.proofs.MachineFilledLemmas.{object-of-takes, load-of-takes}

-- ---- taken as its labels

takes-next : (s : List Kind) (n : ℕ) (fs : List Field) (e : List Kind) → Passes (due s) n → Takes (next s n) fs e → Takes s (field (due s) n ∷ fs) e
takes-next [] n fs e p t = let never = p.passes in absurd (cc)
takes-next (k ∷ s) n fs e p t = (refl, p, t)

takes-word : (v : Width) (s : List Kind) (w : ℕ) (fs : List Field) (e : List Kind) → WordPasses v s w → Takes (word_next v s w) fs e → Takes s (word_labels v s w fs) e
takes-word long s w fs e p t = takes-next s w fs e p t
takes-word (half h) s w fs e p t = takes-next s (w / 2 ^ 16) (field (due (next s (w / 2 ^ 16))) (w % 2 ^ 16) ∷ fs) e p.0 (takes-next (next s (w / 2 ^ 16)) (w % 2 ^ 16) fs e p.1 t)

pub takes-labels : (ws : List ℕ) (s e : List Kind) → Reads s ws e → Takes s (labels s ws) e
takes-labels [] s e r = r
takes-labels (w ∷ ws) s e r =
    takes-word (width (due s)) s w (labels (word_next (width (due s)) s w) ws) e r.0 (takes-labels ws (word_next (width (due s)) s w) e r.1)

-- ---- the longwords of labels

word-whole : (w : ℕ) → w / 2 ^ 16 * 2 ^ 16 + w % 2 ^ 16 ≡ w
word-whole w = omega arith

-- the longwords from a field of this width on
abbrev from_width : Width → ℕ → List Field → List ℕ
from_width v n fs = elim v [ long ↦ n ∷ longwords_after None fs | half h ↦ longwords_after (Some n) fs ]

longwords-width : (k : Kind) (n : ℕ) (fs : List Field) → longwords_of (field k n ∷ fs) ≡ from_width (width k) n fs
longwords-width k n fs = refl

longwords-word : (v : Width) (s : List Kind) (w : ℕ) (fs : List Field) → width (due s) ≡ v → longwords_of (word_labels v s w fs) ≡ w ∷ longwords_of fs
longwords-word long s w fs is = ap (λ v. from_width v w fs) is
longwords-word (half h) s w fs is =
    ap (λ v. from_width v (w / 2 ^ 16) (field (due (next s (w / 2 ^ 16))) (w % 2 ^ 16) ∷ fs)) is ∙ ap (λ q. q ∷ longwords_of fs) (word-whole w)

pub longwords-labels : (ws : List ℕ) (s : List Kind) → longwords_of (labels s ws) ≡ ws
longwords-labels [] s = refl
longwords-labels (w ∷ ws) s =
    longwords-word (width (due s)) s w (labels (word_next (width (due s)) s w) ws) refl
    ∙ ap (λ q. w ∷ q) (longwords-labels ws (word_next (width (due s)) s w))

-- ---- what is taken passes

pub passes-of-takes : (fs : List Field) (s e : List Kind) → Takes s fs e → AllPass fs
passes-of-takes [] s e t = tt
passes-of-takes (f ∷ fs) [] e t = absurd t
passes-of-takes (f ∷ fs) (k ∷ s) e t = (subst (λ q. Passes q f.number) (sym t.0) t.1, passes-of-takes fs _ e t.2)

-- ---- files

pub read-is-object : ReadIsObject
read-is-object ws e r c =
    let t = takes-labels ws (object_start ∷ []) e r in
    let o : (t : ObjectTree) × (object_spelling t ≡ labels (object_start ∷ []) ws) = object-of-takes (labels (object_start ∷ []) ws) e t c in (
      o.0,
      subst (λ q. AllPass q) (sym o.1) (passes-of-takes (labels (object_start ∷ []) ws) (object_start ∷ []) e t),
      ap (λ q. longwords_of q) o.1 ∙ longwords-labels ws (object_start ∷ []),
    )

pub read-is-load : ReadIsLoad
read-is-load ws e r c =
    let t = takes-labels ws (load_start ∷ []) e r in
    let o : (t : LoadTree) × (load_spelling t ≡ labels (load_start ∷ []) ws) = load-of-takes (labels (load_start ∷ []) ws) e t c in (
      o.0,
      subst (λ q. AllPass q) (sym o.1) (passes-of-takes (labels (load_start ∷ []) ws) (load_start ∷ []) e t),
      ap (λ q. longwords_of q) o.1 ∙ longwords-labels ws (load_start ∷ []),
    )
