-- What is read is the beginning of a file, and each file with this beginning has the same there.
use Rattle.std.proofs.Common.{◌≡◌, ℕ, ◌+◌, ◌*◌, ◌/◌, ◌^◌, ◌<◌, List, [], ◌∷◌, ◌++◌, length, Some, None, refl, ap, sym, subst, ◌∙◌, arith}
use Rattle.std.proofs.lemmas.Nat.{div-mul-add}
use Rattle.hunk_words.specs.Kinds.{Kind, Width, Field, bound, width}
use Rattle.hunk_words.specs.FaultTable.{Passes}
use Rattle.hunk_words.specs.Kinds.Width.{long, half}
use Rattle.hunk_words.specs.Kinds.Kind.{unit_type}
use Rattle.hunk_words.specs.FieldLongwords.{longwords_after, longwords_of, fields_in, fields_after}
use Rattle.hunk_words.specs.Machine.{due, push, Takes, IsComplete}
use Rattle.hunk_words.specs.Reading.{WordPasses, Reads, labels, start_of}
use Rattle.hunk_words.specs.Files.{Tree, Fits, spelling, longwords_spelled}
use Rattle.hunk_words.specs.FirstOffence.{Completion}
use Rattle.hunk_words.specs.declared.event.FileKind.{FileKind}
use Rattle.hunk_words.specs.declared.event.FileKind.TheVariants.{Object, Load}
use Rattle.hunk_words.specs.declared.kinds.Half.{Half}
use Rattle.hunk_words.specs.declared.kinds.Half.TheVariants.{Upper as upper, Lower as lower}
use Rattle.hunk_words.proofs.SpellingTakenLemmas.{object-taken, load-taken}
use Rattle.hunk_words.proofs.FieldLongwordsAlignmentLemmas.{Aligned}
use Rattle.hunk_words.proofs.ReadingLemmas.{taken-read}
use Rattle.hunk_words.proofs.ReadingLabelLemmas.{read-is-object, read-is-load}
use Rattle.hunk_words.proofs.ReadingSameLemmas.{object-labels, load-labels}
use Rattle.hunk_words.proofs.MachineStackLemmas.{Finishable, finishable-push, finishable-reads}
use Rattle.hunk_words.proofs.MachineFinishLemmas.{Finish, Begin, finish-begin, finish-stack, begin-stack}
use Rattle.hunk_words.proofs.ReadingSplitLemmas.{reads-behind, reads-join, takes-behind, takes-due, aligned-upper, lower-due, aligned-reads, fields_in-labels, fields_behind-labels}

-- ---- files of both kinds

-- the stack at the start, and where a file may end
abbrev pub start : FileKind → List Kind
start kind = start_of kind ∷ []

abbrev pub end_of : FileKind → List Kind
end_of Object = unit_type ∷ []
end_of Load = []

aligned-start : (kind : FileKind) → Aligned upper (start kind)
aligned-start Object = (refl, refl)
aligned-start Load = (refl, refl)

finishable-start : (kind : FileKind) → Finishable (start kind)
finishable-start Object = (refl, tt)
finishable-start Load = (tt, tt)

pub complete-end : (kind : FileKind) → IsComplete (end_of kind)
complete-end Object = tt
complete-end Load = tt

pub spelling-taken : (kind : FileKind) (t : Tree kind) → Fits kind t → Takes (start kind) (spelling kind t) (end_of kind)
spelling-taken Object t f = object-taken t f
spelling-taken Load t f = load-taken t f

pub spelling-read : (kind : FileKind) (t : Tree kind) → Fits kind t → Reads (start kind) (longwords_spelled kind t) (end_of kind)
spelling-read Object t f = taken-read (start Object) (spelling Object t) (end_of Object) (refl, refl) (refl, refl) (object-taken t f)
spelling-read Load t f = taken-read (start Load) (spelling Load t) (end_of Load) (refl, refl) refl (load-taken t f)

pub spelling-labels : (kind : FileKind) (t : Tree kind) → Fits kind t → spelling kind t ≡ labels (start kind) (longwords_spelled kind t)
spelling-labels Object t f = sym (object-labels t f)
spelling-labels Load t f = sym (load-labels t f)

pub read-spelled : (kind : FileKind) (ws : List ℕ) (e : List Kind) → Reads (start kind) ws e → IsComplete e → (t : Tree kind) × Fits kind t × (longwords_spelled kind t ≡ ws)
read-spelled Object ws e r c = read-is-object ws e r c
read-spelled Load ws e r c = read-is-load ws e r c

pub aligned-front : (kind : FileKind) (ws : List ℕ) (m : List Kind) → Reads (start kind) ws m → Aligned upper m
aligned-front kind ws m r = aligned-reads ws (start kind) m r (aligned-start kind)

finishable-front : (kind : FileKind) (ws : List ℕ) (m : List Kind) → Reads (start kind) ws m → Finishable m
finishable-front kind ws m r = finishable-reads ws (start kind) m r (finishable-start kind)

-- ---- what a file with this beginning has

pub next-passes : (kind : FileKind) (ws more : List ℕ) (w : ℕ) (m : List Kind) (t : Tree kind) → Reads (start kind) ws m → Fits kind t → longwords_spelled kind t ≡ ws ++ (w ∷ more) → WordPasses (width (due m)) m w
next-passes kind ws more w m t r f l =
    (reads-behind ws (w ∷ more) (start kind) m (end_of kind) (subst (λ x. Reads (start kind) x (end_of kind)) l (spelling-read kind t f)) r).0

pub due-borne : (kind : FileKind) (fs gs : List Field) (g : Field) (m : List Kind) (t : Tree kind) → Takes (start kind) fs m → Fits kind t → spelling kind t ≡ fs ++ (g ∷ gs) → (g.kind ≡ due m) × Passes (due m) g.number
due-borne kind fs gs g m t r f l =
    takes-due m g gs (end_of kind) (takes-behind fs (g ∷ gs) (start kind) m (end_of kind) (subst (λ x. Takes (start kind) x (end_of kind)) l (spelling-taken kind t f)) r)

pub spelling-in : (kind : FileKind) (t : Tree kind) (ws more : List ℕ) → Fits kind t → longwords_spelled kind t ≡ ws ++ more → fields_in (length ws) (spelling kind t) ≡ labels (start kind) ws
spelling-in kind t ws more f l =
    ap (λ x. fields_in (length ws) x) (spelling-labels kind t f ∙ ap (λ x. labels (start kind) x) l) ∙ fields_in-labels ws more (start kind)

pub spelling-behind : (kind : FileKind) (t : Tree kind) (ws more : List ℕ) (m : List Kind) → Reads (start kind) ws m → Fits kind t → longwords_spelled kind t ≡ ws ++ more → fields_after (length ws) (spelling kind t) ≡ labels m more
spelling-behind kind t ws more m r f l =
    ap (λ x. fields_after (length ws) x) (spelling-labels kind t f ∙ ap (λ x. labels (start kind) x) l) ∙ fields_behind-labels ws more (start kind) m r

-- ---- completions

aligned-complete : (e : List Kind) → IsComplete e → Aligned upper e
aligned-complete [] c = refl
aligned-complete (unit_type ∷ []) c = (refl, refl)
aligned-complete _ c = absurd c

-- a finish of what is expected completes what was read
completed : (kind : FileKind) (ws : List ℕ) (m : List Kind) → Reads (start kind) ws m → (f : Finish m) → (t : Tree kind) × Fits kind t × (longwords_spelled kind t ≡ ws ++ longwords_of f.fields)
completed kind ws m r f =
    read-spelled kind (ws ++ longwords_of f.fields) f.after
    (reads-join ws (longwords_of f.fields) (start kind) m f.after r
    (taken-read m f.fields f.after (aligned-front kind ws m r) (aligned-complete f.after f.complete) f.takes))
    f.complete

pub front : (kind : FileKind) (ws : List ℕ) (m : List Kind) → Reads (start kind) ws m → (more : List ℕ) × (t : Tree kind) × Fits kind t × (longwords_spelled kind t ≡ ws ++ more)
front kind ws m r =
    let f = finish-stack m (finishable-front kind ws m r) in
    let t = completed kind ws m r f in
    (longwords_of f.fields, t.0, t.1, t.2)

-- fields have longwords
longwords-half : (n : ℕ) (fs : List Field) → (w : ℕ) × (ws : List ℕ) × (longwords_after (Some n) fs ≡ w ∷ ws)
longwords-half n [] = (n * 2 ^ 16, [], refl)
longwords-half n (f ∷ fs) = (n * 2 ^ 16 + f.number, longwords_after None fs, refl)

longwords-cons : (w : Width) (n : ℕ) (fs : List Field) → (v : ℕ) × (ws : List ℕ) × (elim w [ long ↦ n ∷ longwords_after None fs | half h ↦ longwords_after (Some n) fs ] ≡ v ∷ ws)
longwords-cons long n fs = (n, longwords_after None fs, refl)
longwords-cons (half h) n fs = longwords-half n fs

-- the longword of an upper half
longwords-upper : (n : ℕ) (s : List Kind) (fs : List Field) (e : List Kind) → Aligned lower s → Takes s fs e → (w : ℕ) × (ws : List ℕ) × (longwords_after (Some n) fs ≡ w ∷ ws) × (w / 2 ^ 16 ≡ n)
longwords-upper n s [] e a t = (n * 2 ^ 16, [], refl, omega arith)
longwords-upper n s (f ∷ fs) e a t =
    let small : f.number < 2 ^ 16 = subst (λ w. f.number < bound w) (lower-due s a) (takes-due s f fs e t).1.fits in
    (n * 2 ^ 16 + f.number, longwords_after None fs, refl, div-mul-add n (2 ^ 16) f.number small)

completion-finish : (kind : FileKind) (ws : List ℕ) (m : List Kind) → Reads (start kind) ws m → (f : Finish m) (w : ℕ) (more : List ℕ) → longwords_of f.fields ≡ w ∷ more → (c : Completion kind ws) × (c.next ≡ w)
completion-finish kind ws m r f w more l =
    let t = completed kind ws m r f in
    (record { tree = t.0; fits = t.1; next = w; more = more; begins = t.2 ∙ ap (λ x. ws ++ x) l }, refl)

-- where anything is expected, there is a completion
pub completion : (kind : FileKind) (ws : List ℕ) (k : Kind) (s : List Kind) → Reads (start kind) ws (k ∷ s) → Completion kind ws
completion kind ws k s r =
    let b : Begin k s = begin-stack k s (finishable-front kind ws (k ∷ s) r) in
    let l = longwords-cons (width k) b.number b.behind.fields in
    (completion-finish kind ws (k ∷ s) r (finish-begin b) l.0 l.1 l.2).0

-- where halves are expected, there is one with any upper half that passes
pub completion-upper : (kind : FileKind) (ws : List ℕ) (k : Kind) (s : List Kind) (h : Half) (n : ℕ) → Reads (start kind) ws (k ∷ s) → width k ≡ half h → Passes k n → (c : Completion kind ws) × (c.next / 2 ^ 16 ≡ n)
completion-upper kind ws k s h n r is p =
    let q : Finishable (k ∷ s) = finishable-front kind ws (k ∷ s) r in
    let f : Finish (push k n s) = finish-stack (push k n s) (finishable-push k n s p q.0 q.1) in
    let l = longwords-upper n (push k n s) f.fields f.after (aligned-upper k s h n is (aligned-front kind ws (k ∷ s) r)) f.takes in
    let c = completion-finish kind ws (k ∷ s) r (finish-begin (record { number = n; passes = p; behind = f })) l.0 l.1
    (subst (λ w. elim w [ long ↦ n ∷ longwords_after None f.fields | half h ↦ longwords_after (Some n) f.fields ] ≡ l.0 ∷ l.1) (sym is) l.2) in
    (c.0, ap (λ x. x / 2 ^ 16) c.1 ∙ l.3)
