-- What is expected after a valid prefix, and what is blamed there: the machine stops for the reason
-- of the first offence.
use Rattle.std.proofs.Common.{◌≡◌, ℕ, ◌/◌, ◌%◌, ◌^◌, ◌<◌, List, [], ◌∷◌, length, Option, Some, None, Result, Ok, Err, ◌⊎◌, inl, inr, refl, ap, sym, subst, ◌∙◌, arith}
use Rattle.hunk_base.specs.Longwords.{AllLong}
use Rattle.hunk_words.specs.Kinds.{Kind, Width, Field, field, width, bound}
use Rattle.hunk_words.specs.FaultTable.{Passes, judged, and_then}
use Rattle.hunk_words.specs.Kinds.Width.{long, half}
use Rattle.hunk_words.specs.Kinds.Kind.{past_end}
use Rattle.hunk_words.specs.FieldLongwords.{fields_after}
use Rattle.hunk_words.specs.Machine.{due, next, push}
use Rattle.hunk_words.specs.SiteRules.{limit_of, site_judged, seen_after, seen_all}
use Rattle.hunk_words.specs.Reading.{word_next, word_labels, Reads, labels, Progress, initial_progress, field_next, unless, field_step, ◌>>=◌, width_step, read_word, read_words}
use Rattle.hunk_words.specs.Files.{spelling, most_longwords, IsFile}
use Rattle.hunk_words.specs.FirstOffence.{Completion, first_kind, second_kind, seen_with_first, kind_at, seen_before, lower_kind_at, seen_before_lower, IsDue, IsLowerDue, wrong_with, Blames}
use Rattle.hunk_words.specs.FirstOffence.Blames.{too_large, behind_file, longword, upper_half, lower_half}
use Rattle.hunk_words.specs.declared.event.FileKind.{FileKind}
use Rattle.hunk_words.specs.declared.event.FileKind.TheVariants.{Object, Load}
use Rattle.hunk_words.specs.declared.kinds.Half.{Half}
use Rattle.hunk_words.specs.declared.kinds.Half.TheVariants.{Upper as upper}
use Rattle.hunk_base.specs.declared.fault.Reason.{Reason}
use Rattle.hunk_words.proofs.ReadingSplitLemmas.{reads-one, upper-due}
use Rattle.hunk_words.proofs.FilesPrefixLemmas.{start, end_of, spelling-read, read-spelled, aligned-front, spelling-in, spelling-behind, completion, completion-upper}
use Rattle.hunk_words.proofs.ReadingProgressLemmas.{and_then-none, WordsRead, words-read}
use Rattle.hunk_words.proofs.FilesReadingLemmas.{complete-file, file-reads}

-- ---- what completions have

-- the first field of the next longword, and the second if it has two
first-due : (w : Width) (m : List Kind) (n : ℕ) (fs : List Field) → first_kind (word_labels w m n fs) ≡ Some (due m)
first-due long m n fs = refl
first-due (half h) m n fs = refl

borne-due : (kind : FileKind) (ws : List ℕ) (m : List Kind) (c : Completion kind ws) → Reads (start kind) ws m → kind_at (length ws) (spelling kind c.tree) ≡ Some (due m)
borne-due kind ws m c r =
    ap (λ x. first_kind x) (spelling-behind kind c.tree ws (c.next ∷ c.more) m r c.fits c.begins) ∙ first-due (width (due m)) m c.next _

borne-seen : (kind : FileKind) (ws : List ℕ) (c : Completion kind ws) → seen_before (length ws) (spelling kind c.tree) ≡ seen_all [] (labels (start kind) ws)
borne-seen kind ws c = ap (λ x. seen_all [] x) (spelling-in kind c.tree ws (c.next ∷ c.more) c.fits c.begins)

-- where halves are expected, and the upper one is n
borne-halves : (kind : FileKind) (ws : List ℕ) (m : List Kind) (h : Half) (n : ℕ) (c : Completion kind ws) → Reads (start kind) ws m → width (due m) ≡ half h → c.next / 2 ^ 16 ≡ n
    → (fs : List Field) × (fields_after (length ws) (spelling kind c.tree) ≡ field (due m) n ∷ field (due (next m n)) (c.next % 2 ^ 16) ∷ fs)
borne-halves kind ws m h n c r is u =
    let fs : List Field = labels (word_next (half h) m c.next) c.more in (
      fs,
      spelling-behind kind c.tree ws (c.next ∷ c.more) m r c.fits c.begins
          ∙ ap (λ w. word_labels w m c.next (labels (word_next w m c.next) c.more)) is
          ∙ ap (λ x. field (due m) x ∷ field (due (next m x)) (c.next % 2 ^ 16) ∷ fs) u,
    )

borne-lower : (kind : FileKind) (ws : List ℕ) (m : List Kind) (h : Half) (n : ℕ) (c : Completion kind ws) → Reads (start kind) ws m → width (due m) ≡ half h → c.next / 2 ^ 16 ≡ n
    → lower_kind_at (length ws) (spelling kind c.tree) ≡ Some (due (next m n))
borne-lower kind ws m h n c r is u = ap (λ x. second_kind x) (borne-halves kind ws m h n c r is u).1

borne-seen_lower : (kind : FileKind) (ws : List ℕ) (m : List Kind) (h : Half) (n : ℕ) (c : Completion kind ws) → Reads (start kind) ws m → width (due m) ≡ half h → c.next / 2 ^ 16 ≡ n
    → seen_before_lower (length ws) (spelling kind c.tree) ≡ seen_after (due m) n (seen_all [] (labels (start kind) ws))
borne-seen_lower kind ws m h n c r is u =
    ap (λ x. seen_with_first (seen_before (length ws) (spelling kind c.tree)) x) (borne-halves kind ws m h n c r is u).1
    ∙ ap (λ x. seen_after (due m) n x) (borne-seen kind ws c)

-- ---- results

err-one : {A : Type 0} {r s : Reason} → ◌≡◌ {A = Result A Reason} (Err r) (Err s) → r ≡ s
err-one h = cc

unless-err : (o : Option Reason) (c : Progress) (r : Reason) → unless o c ≡ Err r → o ≡ Some r
unless-err None c r h = absurd (cc)
unless-err (Some s) c r h = ap (λ x. Some x) (err-one h)

bind-err : (o : Option Reason) (c : Progress) (f : Progress → Result Progress Reason) (r : Reason) → unless o c >>= f ≡ Err r → (o ≡ Some r) ⊎ ((o ≡ None) × (f c ≡ Err r))
bind-err None c f r h = inr (refl, h)
bind-err (Some s) c f r h = inl (ap (λ x. Some x) (err-one h))

-- ---- the machine's reason is blamed

pub is-due : (kind : FileKind) (ws : List ℕ) (k : Kind) (s : List Kind) (seen : List ℕ) → Reads (start kind) ws (k ∷ s) → seen_all [] (labels (start kind) ws) ≡ seen → IsDue kind ws k seen
is-due kind ws k s seen r is = record {
  some = completion kind ws k s r;
  bears = λ c. borne-due kind ws (k ∷ s) c r;
  before = λ c. borne-seen kind ws c ∙ is;
}

is-lower-due : (kind : FileKind) (ws : List ℕ) (k : Kind) (s : List Kind) (h : Half) (n : ℕ) (seen : List ℕ) → Reads (start kind) ws (k ∷ s) → seen_all [] (labels (start kind) ws) ≡ seen → width k ≡ half h → Passes k n
    → IsLowerDue kind ws n (due (push k n s)) (seen_after k n seen)
is-lower-due kind ws k s h n seen r is wide p =
    let c = completion-upper kind ws k s h n r wide p in record {
      some = c.0;
      some_is = c.1;
      bears = λ d u. borne-lower kind ws (k ∷ s) h n d r wide u;
      before = λ d u. borne-seen_lower kind ws (k ∷ s) h n d r wide u ∙ ap (λ x. seen_after k n x) is;
    }

blames-width : (w : Width) (kind : FileKind) (ws : List ℕ) (k : Kind) (s : List Kind) (seen : List ℕ) (bad : ℕ) (r : Reason) → width k ≡ w → length ws < most_longwords → bad < 2 ^ 32
    → Reads (start kind) ws (k ∷ s) → seen_all [] (labels (start kind) ws) ≡ seen → width_step w (record { stack = k ∷ s; seen = seen }) bad ≡ Err r → Blames kind ws bad r
blames-width long kind ws k s seen bad r wide short small reads is h =
    longword short (is-due kind ws k s seen reads is) wide (unless-err (wrong_with k seen bad) _ r h)
blames-width (half x) kind ws k s seen bad r wide short small reads is h =
    let both : width k ≡ half upper = wide ∙ ap (λ y. half y) (upper-due k s x wide (aligned-front kind ws (k ∷ s) reads)) in
    elim (bind-err (wrong_with k seen (bad / 2 ^ 16)) (field_next (record { stack = k ∷ s; seen = seen }) (bad / 2 ^ 16)) (λ d. field_step d (bad % 2 ^ 16)) r h) [
      | inl e ↦ upper_half short (is-due kind ws k s seen reads is) both e
      | inr e ↦ lower_half short (is-due kind ws k s seen reads is) both e.0
          (is-lower-due kind ws k s upper (bad / 2 ^ 16) seen reads is both
          (record { fits = subst (λ w. bad / 2 ^ 16 < bound w) (sym both) (omega arith); passes = (and_then-none (judged k (bad / 2 ^ 16)) (site_judged (limit_of k) seen (bad / 2 ^ 16)) e.0).0 }))
          (unless-err (wrong_with (due (push k (bad / 2 ^ 16) s)) (seen_after k (bad / 2 ^ 16) seen) (bad % 2 ^ 16)) _ r e.1)
    ]

-- only a load file ends where nothing is expected
pub load-ends : (kind : FileKind) (ws : List ℕ) → Reads (start kind) ws [] → kind ≡ Load
load-ends Load ws r = refl
load-ends Object ws r =
    let t = read-spelled Object ws [] r tt in
    let e : Reads (start Object) ws (end_of Object) = subst (λ x. Reads (start Object) x (end_of Object)) t.2 (spelling-read Object t.0 t.1) in
    let same : ◌≡◌ {A = List Kind} [] (end_of Object) = reads-one ws (start Object) [] (end_of Object) r e in
    absurd (cc)

pub blames-stop : (kind : FileKind) (ws : List ℕ) (s : List Kind) (seen : List ℕ) (bad : ℕ) (r : Reason) → AllLong ws → length ws < most_longwords → bad < 2 ^ 32
    → read_words (initial_progress kind) 0 ws ≡ Ok (record { stack = s; seen = seen }) → read_word (record { stack = s; seen = seen }) bad ≡ Err r → Blames kind ws bad r
blames-stop kind ws [] seen bad r longs short small h e =
    let d = words-read ws (initial_progress kind) 0 (record { stack = []; seen = seen }) longs h in
    behind_file short (load-ends kind ws d.reads) (complete-file kind ws (record { stack = []; seen = seen }) longs (omega arith) h tt) (ap (λ x. Some x) (err-one e))
blames-stop kind ws (k ∷ s) seen bad r longs short small h e =
    let d = words-read ws (initial_progress kind) 0 (record { stack = k ∷ s; seen = seen }) longs h in
    blames-width (width k) kind ws k s seen bad r refl short small d.reads d.seen e

-- ---- what is blamed is the machine's reason

some-one : {A : Type 0} {a b : A} → Some a ≡ Some b → a ≡ b
some-one h = cc

-- what is expected is what the machine expects
pub due-read : (kind : FileKind) (ws : List ℕ) (d : Progress) (k : Kind) (seen : List ℕ) → WordsRead (initial_progress kind) ws d → IsDue kind ws k seen → (due d.stack ≡ k) × (d.seen ≡ seen)
due-read kind ws d k seen r is =
    (some-one (sym (borne-due kind ws d.stack is.some r.reads) ∙ is.bears is.some), sym r.seen ∙ sym (borne-seen kind ws is.some) ∙ is.before is.some)

lower-due-read : (kind : FileKind) (ws : List ℕ) (d : Progress) (h : Half) (n : ℕ) (l : Kind) (seen : List ℕ) → WordsRead (initial_progress kind) ws d → width (due d.stack) ≡ half h → IsLowerDue kind ws n l seen
    → (due (next d.stack n) ≡ l) × (seen_after (due d.stack) n d.seen ≡ seen)
lower-due-read kind ws d h n l seen r wide is = (
  some-one (sym (borne-lower kind ws d.stack h n is.some r.reads wide is.some_is) ∙ is.bears is.some is.some_is),
  ap (λ x. seen_after (due d.stack) n x) (sym r.seen) ∙ sym (borne-seen_lower kind ws d.stack h n is.some r.reads wide is.some_is) ∙ is.before is.some is.some_is,
)

-- after a whole load file
reason-behind : (kind : FileKind) (ws : List ℕ) (d : Progress) (bad : ℕ) (r : Reason) → WordsRead (initial_progress kind) ws d → kind ≡ Load → IsFile kind ws → judged past_end bad ≡ Some r → read_word d bad ≡ Err r
reason-behind Object ws d bad r reads load file past = absurd (cc)
reason-behind Load ws d bad r reads load file past =
    let empty : [] ≡ d.stack = reads-one ws (start Load) [] d.stack (file-reads Load ws file) reads.reads in
    subst (λ s. read_word (record { stack = s; seen = d.seen }) bad ≡ Err r) empty (ap (λ o. unless (and_then o None) (field_next (record { stack = []; seen = d.seen }) bad)) past)

-- where the reason is blamed after fewer longwords than the most
pub reason-read : (kind : FileKind) (ws : List ℕ) (d : Progress) (bad : ℕ) (r : Reason) → WordsRead (initial_progress kind) ws d → length ws < most_longwords → Blames kind ws bad r → read_word d bad ≡ Err r
reason-read kind ws d bad r reads short (too_large e is) = absurd (omega arith)
reason-read kind ws d bad r reads short (behind_file _ load file past) = reason-behind kind ws d bad r reads load file past
reason-read kind ws d bad r reads short (longword {k} {seen} _ is wide wrong) =
    let same = due-read kind ws d k seen reads is in
    subst (λ w. width_step w d bad ≡ Err r) (sym (ap (λ x. width x) same.0 ∙ wide))
    (ap (λ o. unless o (field_next d bad)) (ap (λ x. wrong_with x d.seen bad) same.0 ∙ ap (λ x. wrong_with k x bad) same.1 ∙ wrong))
reason-read kind ws d bad r reads short (upper_half {k} {seen} _ is wide wrong) =
    let same = due-read kind ws d k seen reads is in
    subst (λ w. width_step w d bad ≡ Err r) (sym (ap (λ x. width x) same.0 ∙ wide))
    (ap (λ o. unless o (field_next d (bad / 2 ^ 16)) >>= (λ x. field_step x (bad % 2 ^ 16)))
    (ap (λ x. wrong_with x d.seen (bad / 2 ^ 16)) same.0 ∙ ap (λ x. wrong_with k x (bad / 2 ^ 16)) same.1 ∙ wrong))
reason-read kind ws d bad r reads short (lower_half {k} {l} {seen} {seen_lower} _ is wide right lower_is wrong) =
    let same = due-read kind ws d k seen reads is in
    let wide_too : width (due d.stack) ≡ half upper = ap (λ x. width x) same.0 ∙ wide in
    let below = lower-due-read kind ws d upper (bad / 2 ^ 16) l seen_lower reads wide_too lower_is in
    let e : Progress = field_next d (bad / 2 ^ 16) in
    subst (λ w. width_step w d bad ≡ Err r) (sym wide_too)
    (ap (λ o. unless o e >>= (λ x. field_step x (bad % 2 ^ 16)))
    (ap (λ x. wrong_with x d.seen (bad / 2 ^ 16)) same.0 ∙ ap (λ x. wrong_with k x (bad / 2 ^ 16)) same.1 ∙ right)
    ∙ ap (λ o. unless o (field_next e (bad % 2 ^ 16))) (ap (λ x. wrong_with x e.seen (bad % 2 ^ 16)) below.0 ∙ ap (λ x. wrong_with l x (bad % 2 ^ 16)) below.1 ∙ wrong))
