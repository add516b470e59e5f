-- The machine with the rules for sites reads what passes and obeys them.
use Rattle.std.proofs.Common.{◌≡◌, ℕ, ◌+◌, ◌/◌, ◌%◌, ◌^◌, ◌<◌, List, [], ◌∷◌, ◌++◌, length, Option, Some, None, Result, Ok, Err, refl, ap, sym, subst, ◌∙◌, arith}
use Rattle.hunk_base.specs.Longwords.{AllLong}
use Rattle.hunk_words.specs.Kinds.{Kind, Width, Field, width, bound}
use Rattle.hunk_words.specs.FaultTable.{judged, and_then}
use Rattle.hunk_words.specs.Kinds.Width.{long, half}
use Rattle.hunk_words.specs.Machine.{due}
use Rattle.hunk_words.specs.SiteRules.{limit_of, site_judged, seen_all, Obeys}
use Rattle.hunk_words.specs.Reading.{word_next, WordPasses, Reads, word_labels, labels, Progress, field_judged, field_next, unless, field_step, ◌>>=◌, width_step, read_word, read_words}
use Rattle.hunk_words.specs.declared.kinds.Half.{Half}
use Rattle.hunk_base.specs.declared.fault.Reason.{Reason}

-- ---- a field

pub and_then-none : (a b : Option Reason) → and_then a b ≡ None → (a ≡ None) × (b ≡ None)
and_then-none None b h = (refl, h)
and_then-none (Some r) b h = absurd (cc)

none-and_then : (a b : Option Reason) → a ≡ None → b ≡ None → and_then a b ≡ None
none-and_then a b p q = ap (λ x. and_then x b) p ∙ q

unless-ok : (o : Option Reason) (c d : Progress) → unless o c ≡ Ok d → (o ≡ None) × (c ≡ d)
unless-ok None c d h = (refl, cc)
unless-ok (Some r) c d h = absurd (cc)

bind-ok : (o : Option Reason) (c d : Progress) (f : Progress → Result Progress Reason) → unless o c >>= f ≡ Ok d → (o ≡ None) × (f c ≡ Ok d)
bind-ok None c d f h = (refl, h)
bind-ok (Some r) c d f h = absurd (cc)

-- ---- a longword

-- What it means that a longword has been read.
record WordRead (w : Width) (c : Progress) (n : ℕ) (d : Progress) : Type 0 where
  passes : WordPasses w c.stack n
  stack : d.stack ≡ word_next w c.stack n
  obeys : (fs : List Field) → Obeys d.seen fs → Obeys c.seen (word_labels w c.stack n fs)
  seen : (fs : List Field) → seen_all c.seen (word_labels w c.stack n fs) ≡ seen_all d.seen fs

below-bound : (w : Width) (n : ℕ) → n < 2 ^ 16 → n < bound w
below-bound long n h = omega arith
below-bound (half x) n h = h

read-long : (c : Progress) (n : ℕ) → width (due c.stack) ≡ long → n < 2 ^ 32 → field_judged c n ≡ None → WordRead long c n (field_next c n)
read-long c n is small h =
    let j = and_then-none (judged (due c.stack) n) (site_judged (limit_of (due c.stack)) c.seen n) h in record {
      passes = record { fits = subst (λ w. n < bound w) (sym is) small; passes = j.0 };
      stack = refl;
      obeys = λ fs o. (j.1, o);
      seen = λ fs. refl;
    }

read-half : (c : Progress) (n : ℕ) (h : Half) → n < 2 ^ 32 → field_judged c (n / 2 ^ 16) ≡ None → field_judged (field_next c (n / 2 ^ 16)) (n % 2 ^ 16) ≡ None
    → WordRead (half h) c n (field_next (field_next c (n / 2 ^ 16)) (n % 2 ^ 16))
read-half c n h small p q =
    let d : Progress = field_next c (n / 2 ^ 16) in
    let i = and_then-none (judged (due c.stack) (n / 2 ^ 16)) (site_judged (limit_of (due c.stack)) c.seen (n / 2 ^ 16)) p in
    let j = and_then-none (judged (due d.stack) (n % 2 ^ 16)) (site_judged (limit_of (due d.stack)) d.seen (n % 2 ^ 16)) q in record {
      passes = (
        record { fits = below-bound (width (due c.stack)) (n / 2 ^ 16) (omega arith); passes = i.0 },
        record { fits = below-bound (width (due d.stack)) (n % 2 ^ 16) (omega arith); passes = j.0 },
      );
      stack = refl;
      obeys = λ fs o. (i.1, (j.1, o));
      seen = λ fs. refl;
    }

read-width : (w : Width) (c : Progress) (n : ℕ) (d : Progress) → width (due c.stack) ≡ w → n < 2 ^ 32 → width_step w c n ≡ Ok d → WordRead w c n d
read-width long c n d is small h =
    let u = unless-ok (field_judged c n) (field_next c n) d h in
    subst (λ x. WordRead long c n x) u.1 (read-long c n is small u.0)
read-width (half h) c n d is small e =
    let b = bind-ok (field_judged c (n / 2 ^ 16)) (field_next c (n / 2 ^ 16)) d (λ x. field_step x (n % 2 ^ 16)) e in
    let u = unless-ok (field_judged (field_next c (n / 2 ^ 16)) (n % 2 ^ 16)) (field_next (field_next c (n / 2 ^ 16)) (n % 2 ^ 16)) d b.1 in
    subst (λ x. WordRead (half h) c n x) u.1 (read-half c n h small b.0 u.0)

-- ---- longwords

pub record WordsRead (c : Progress) (ws : List ℕ) (d : Progress) : Type 0 where
  pub reads : Reads c.stack ws d.stack
  pub obeys : Obeys c.seen (labels c.stack ws)
  pub seen : seen_all c.seen (labels c.stack ws) ≡ d.seen

read-cons : (c b d : Progress) (w : ℕ) (ws : List ℕ) → WordRead (width (due c.stack)) c w b → WordsRead b ws d → WordsRead c (w ∷ ws) d
read-cons c b d w ws first rest = record {
  reads = (first.passes, subst (λ s. Reads s ws d.stack) first.stack rest.reads);
  obeys = first.obeys (labels (word_next (width (due c.stack)) c.stack w) ws) (subst (λ s. Obeys b.seen (labels s ws)) first.stack rest.obeys);
  seen = first.seen (labels (word_next (width (due c.stack)) c.stack w) ws) ∙ ap (λ s. seen_all b.seen (labels s ws)) (sym first.stack) ∙ rest.seen;
}

-- what the machine makes of the longwords after the first
abbrev read_rest : Result Progress Reason → ℕ → List ℕ → Result Progress (ℕ × Reason)
read_rest r p ws = elim r [ Ok d ↦ read_words d (p + 1) ws | Err e ↦ Err (p, e) ]

read-first : (r : Result Progress Reason) (p : ℕ) (ws : List ℕ) (d : Progress) → read_rest r p ws ≡ Ok d → (b : Progress) × (r ≡ Ok b) × (read_words b (p + 1) ws ≡ Ok d)
read-first (Ok b) p ws d h = (b, refl, h)
read-first (Err e) p ws d h = absurd (cc)

pub words-read : (ws : List ℕ) (c : Progress) (p : ℕ) (d : Progress) → AllLong ws → read_words c p ws ≡ Ok d → WordsRead c ws d
words-read [] c p d small h = let e : c ≡ d = cc in record { reads = ap (λ x. x.stack) e; obeys = tt; seen = ap (λ x. x.seen) e }
words-read (w ∷ ws) c p d small h =
    let b = read-first (read_word c w) p ws d h in
    read-cons c b.0 d w ws (read-width (width (due c.stack)) c w b.0 refl small.0 b.1) (words-read ws b.0 (p + 1) d small.1 b.2)

-- ---- what passes and obeys is read

-- What comes of a longword.
record WordGoes (w : Width) (c : Progress) (n : ℕ) (fs : List Field) : Type 0 where
  after : Progress
  goes : width_step w c n ≡ Ok after
  stack : after.stack ≡ word_next w c.stack n
  obeys : Obeys after.seen fs
  seen : seen_all c.seen (word_labels w c.stack n fs) ≡ seen_all after.seen fs

word-goes : (w : Width) (c : Progress) (n : ℕ) (fs : List Field) → WordPasses w c.stack n → Obeys c.seen (word_labels w c.stack n fs) → WordGoes w c n fs
word-goes long c n fs p o = record {
  after = field_next c n;
  goes = ap (λ x. unless x (field_next c n)) (none-and_then (judged (due c.stack) n) (site_judged (limit_of (due c.stack)) c.seen n) p.passes o.0);
  stack = refl;
  obeys = o.1;
  seen = refl;
}
word-goes (half h) c n fs p o =
    let d : Progress = field_next c (n / 2 ^ 16) in record {
      after = field_next d (n % 2 ^ 16);
      goes = ap (λ x. unless x d >>= (λ y. field_step y (n % 2 ^ 16))) (none-and_then (judged (due c.stack) (n / 2 ^ 16)) (site_judged (limit_of (due c.stack)) c.seen (n / 2 ^ 16)) p.0.passes o.0)
          ∙ ap (λ x. unless x (field_next d (n % 2 ^ 16))) (none-and_then (judged (due d.stack) (n % 2 ^ 16)) (site_judged (limit_of (due d.stack)) d.seen (n % 2 ^ 16)) p.1.passes o.1.0);
      stack = refl;
      obeys = o.1.1;
      seen = refl;
    }

pub words-go : (ws : List ℕ) (c : Progress) (p : ℕ) (m : List Kind) → Reads c.stack ws m → Obeys c.seen (labels c.stack ws) → (d : Progress) × (read_words c p ws ≡ Ok d) × WordsRead c ws d
words-go [] c p m r o = (c, refl, record { reads = refl; obeys = tt; seen = refl })
words-go (w ∷ ws) c p m r o =
    let fs : List Field = labels (word_next (width (due c.stack)) c.stack w) ws in
    let g = word-goes (width (due c.stack)) c w fs r.0 o in
    let d = words-go ws g.after (p + 1) m (subst (λ s. Reads s ws m) (sym g.stack) r.1) (subst (λ s. Obeys g.after.seen (labels s ws)) (sym g.stack) g.obeys) in (
      d.0,
      ap (λ x. read_rest x p ws) g.goes ∙ d.1,
      record {
        reads = (r.0, subst (λ s. Reads s ws d.0.stack) g.stack d.2.reads);
        obeys = o;
        seen = g.seen ∙ ap (λ s. seen_all g.after.seen (labels s ws)) (sym g.stack) ∙ d.2.seen;
      },
    )

-- ---- where the machine stops

pub record StopsInside (c : Progress) (ws : List ℕ) (from p : ℕ) (r : Reason) : Type 0 where
  pub front : List ℕ
  pub bad : ℕ
  pub behind : List ℕ
  pub reached : Progress
  pub parts : ws ≡ front ++ (bad ∷ behind)
  pub place : p ≡ from + length front
  pub comes_to : read_words c from front ≡ Ok reached
  pub reason : read_word reached bad ≡ Err r

stop-rest : (f : Result Progress Reason) (c : Progress) (w : ℕ) (ws : List ℕ) (from p : ℕ) (r : Reason) → read_word c w ≡ f → read_rest f from ws ≡ Err (p, r)
    → ((d : Progress) → read_words d (from + 1) ws ≡ Err (p, r) → StopsInside d ws (from + 1) p r) → StopsInside c (w ∷ ws) from p r
stop-rest (Err e) c w ws from p r is h rest =
    let pair : ◌≡◌ {A = ℕ × Reason} (from, e) (p, r) = cc in record {
      front = [];
      bad = w;
      behind = ws;
      reached = c;
      parts = refl;
      place = let x : p ≡ from = sym (ap (λ x. x.0) pair) in omega arith;
      comes_to = refl;
      reason = is ∙ ap (λ x. Err (x.1)) pair;
    }
stop-rest (Ok d) c w ws from p r is h rest =
    let s = rest d h in record {
      front = w ∷ s.front;
      bad = s.bad;
      behind = s.behind;
      reached = s.reached;
      parts = ap (λ x. w ∷ x) s.parts;
      place = let x : p ≡ (from + 1) + length s.front = s.place in omega arith;
      comes_to = ap (λ x. read_rest x from s.front) is ∙ s.comes_to;
      reason = s.reason;
    }

pub stops : (ws : List ℕ) (c : Progress) (from p : ℕ) (r : Reason) → read_words c from ws ≡ Err (p, r) → StopsInside c ws from p r
stops [] c from p r h = absurd (cc)
stops (w ∷ ws) c from p r h = stop-rest (read_word c w) c w ws from p r refl h (λ d g. stops ws d (from + 1) p r g)

-- after a rejected longword it stays stopped
pub stays : (ws behind : List ℕ) (bad : ℕ) (c d : Progress) (p : ℕ) (r : Reason) → read_words c p ws ≡ Ok d → read_word d bad ≡ Err r → (q : ℕ) × (read_words c p (ws ++ (bad ∷ behind)) ≡ Err (q, r))
stays [] behind bad c d p r h e =
    let same : c ≡ d = cc in (p, ap (λ x. read_rest x p behind) (ap (λ x. read_word x bad) same ∙ e))
stays (w ∷ ws) behind bad c d p r h e =
    let b = read-first (read_word c w) p ws d h in
    let s = stays ws behind bad b.0 d (p + 1) r b.2 e in
    (s.0, ap (λ x. read_rest x p (ws ++ (bad ∷ behind))) b.1 ∙ s.1)
