-- The first offence: the machine stops there, longwords that are not a file have one, and it is
-- unique.
use Rattle.std.proofs.Common.{◌≡◌, ℕ, zero, suc, ◌+◌, ◌^◌, ◌<◌, ◌≤◌, List, [], ◌∷◌, ◌++◌, length, Result, Ok, Err, ◌⊎◌, inl, inr, refl, ap, sym, subst, ◌∙◌, append_assoc, length-append, arith}
use Rattle.hunk_base.specs.Longwords.{AllLong}
use Rattle.hunk_words.specs.Kinds.{Kind}
use Rattle.hunk_words.specs.Kinds.Kind.{unit_type}
use Rattle.hunk_words.specs.Machine.{IsComplete}
use Rattle.hunk_words.specs.Reading.{Progress, initial_progress, read_words}
use Rattle.hunk_words.specs.Files.{most_longwords, IsFile, IsValidPrefix}
use Rattle.hunk_words.specs.FirstOffence.{Blames, OffendsAt, EndsEarly, end_reason, FirstOffence}
use Rattle.hunk_words.specs.FirstOffence.Blames.{too_large, behind_file, longword, upper_half, lower_half}
use Rattle.hunk_words.specs.FirstOffence.FirstOffence.{longword_offends, end_offends}
use Rattle.hunk_words.specs.FirstOffenceLaws.{Offends}
use Rattle.hunk_words.specs.declared.event.FileKind.{FileKind}
use Rattle.hunk_base.specs.declared.fault.Reason.{Reason}
use Rattle.hunk_base.specs.declared.fault.Reason.TheVariants.{TooLarge}
use Rattle.hunk_words.proofs.ReadingProgressLemmas.{StopsInside, stops, stays}
use Rattle.hunk_words.proofs.FilesReadingLemmas.{front-front, file-front, front-read, read-front, complete-file, file-complete}
use Rattle.hunk_words.proofs.FirstOffenceBlameLemmas.{blames-stop, reason-read}

-- ---- longwords in parts

long-append : (xs ys : List ℕ) → AllLong (xs ++ ys) → AllLong xs × AllLong ys
long-append [] ys h = (tt, h)
long-append (x ∷ xs) ys h = let r = long-append xs ys h.1 in ((h.0, r.0), r.1)

-- a list that is longer than n, cut after the first n
cut : (n : ℕ) (ws : List ℕ) → n < length ws → (front : List ℕ) × (bad : ℕ) × (behind : List ℕ) × (ws ≡ front ++ (bad ∷ behind)) × (length front ≡ n)
cut n [] h = absurd (omega arith)
cut zero (w ∷ ws) h = ([], w, ws, refl, refl)
cut (suc n) (w ∷ ws) h = let r = cut n ws (omega arith) in (w ∷ r.0, r.1, r.2, ap (λ x. w ∷ x) r.3, ap (λ x. suc x) r.4)

-- how two cuts of a list lie
data Cuts (xs : List ℕ) (x : ℕ) (ys : List ℕ) (y : ℕ) : Type 0 where
  same : xs ≡ ys → x ≡ y → Cuts xs x ys y
  shorter : (more : List ℕ) → ys ≡ (xs ++ (x ∷ [])) ++ more → Cuts xs x ys y
  longer : (more : List ℕ) → xs ≡ (ys ++ (y ∷ [])) ++ more → Cuts xs x ys y

cuts : (xs ys us vs : List ℕ) (x y : ℕ) → xs ++ (x ∷ us) ≡ ys ++ (y ∷ vs) → Cuts xs x ys y
cuts [] [] us vs x y h = same refl (cc)
cuts [] (b ∷ ys) us vs x y h = let e : x ≡ b = cc in shorter ys (ap (λ z. z ∷ ys) (sym e))
cuts (a ∷ xs) [] us vs x y h = let e : a ≡ y = cc in longer xs (ap (λ z. z ∷ xs) e)
cuts (a ∷ xs) (b ∷ ys) us vs x y h =
    let e : a ≡ b = cc in
    let t : xs ++ (x ∷ us) ≡ ys ++ (y ∷ vs) = cc in
    elim (cuts xs ys us vs x y t) [
      | same p q ↦ same (ap (λ z. z ∷ xs) e ∙ ap (λ z. b ∷ z) p) q
      | shorter more p ↦ shorter more (ap (λ z. z ∷ ys) (sym e) ∙ ap (λ z. a ∷ z) p)
      | longer more p ↦ longer more (ap (λ z. z ∷ xs) e ∙ ap (λ z. b ∷ z) p)
    ]

-- ---- where the machine stops

module _ (kind : FileKind) (ws : List ℕ) (p : ℕ) (r : Reason) (longs : AllLong ws) (short : p < most_longwords) (s : StopsInside (initial_progress kind) ws 0 p r) where
  parts-long : AllLong s.front × (s.bad < 2 ^ 32)
  parts-long = let l = long-append s.front (s.bad ∷ s.behind) (subst (λ x. AllLong x) s.parts longs) in (l.0, l.1.0)

  at-place : p ≡ length s.front
  at-place = let e : p ≡ 0 + length s.front = s.place in omega arith

  good-front : IsValidPrefix kind s.front
  good-front = read-front kind s.front s.reached parts-long.0 (let e : p ≡ length s.front = at-place in omega arith) s.comes_to

  no-longer : IsValidPrefix kind (s.front ++ (s.bad ∷ [])) → ⊥
  no-longer g =
      let d = front-read kind (s.front ++ (s.bad ∷ [])) g in
      let e = stays s.front [] s.bad (initial_progress kind) s.reached 0 r s.comes_to s.reason in
      let both : ◌≡◌ {A = Result Progress (ℕ × Reason)} (Ok d.0) (Err (e.0, r)) = sym d.1 ∙ e.1 in
      absurd (cc)

  offends-stop : Offends kind ws p r
  offends-stop = record {
    front = s.front;
    bad = s.bad;
    behind = s.behind;
    reached = s.reached;
    parts = s.parts;
    place = at-place;
    good = good-front;
    no_longer = no-longer;
    comes_to = s.comes_to;
    reason = s.reason;
  }

  offends-at-stop : OffendsAt kind ws p r
  offends-at-stop = record {
    front = s.front;
    bad = s.bad;
    behind = s.behind;
    parts = s.parts;
    at_place = at-place;
    good = good-front;
    no_longer = no-longer;
    blames = blames-stop kind s.front s.reached.stack s.reached.seen s.bad r parts-long.0 (let e : p ≡ length s.front = at-place in omega arith) parts-long.1 s.comes_to s.reason;
  }

pub offends : (kind : FileKind) (ws : List ℕ) (p : ℕ) (r : Reason) → AllLong ws → p < most_longwords → read_words (initial_progress kind) 0 ws ≡ Err (p, r) → Offends kind ws p r
offends kind ws p r longs short h = offends-stop kind ws p r longs short (stops ws (initial_progress kind) 0 p r h)

pub offends-at : (kind : FileKind) (ws : List ℕ) (p : ℕ) (r : Reason) → AllLong ws → p < most_longwords → read_words (initial_progress kind) 0 ws ≡ Err (p, r) → OffendsAt kind ws p r
offends-at kind ws p r longs short h = offends-at-stop kind ws p r longs short (stops ws (initial_progress kind) 0 p r h)

pub too-long : (kind : FileKind) (front behind : List ℕ) (bad : ℕ) (d : Progress) → AllLong front → length front ≡ most_longwords → read_words (initial_progress kind) 0 front ≡ Ok d → OffendsAt kind (front ++ (bad ∷ behind)) most_longwords TooLarge
too-long kind front behind bad d longs long h = record {
  front = front;
  bad = bad;
  behind = behind;
  parts = refl;
  at_place = sym long;
  good = read-front kind front d longs (omega arith) h;
  no_longer = λ g. let n : length (front ++ (bad ∷ [])) ≤ most_longwords = g.short_enough in let e : length (front ++ (bad ∷ [])) ≡ length front + 1 = length-append front (bad ∷ []) in omega arith;
  blames = too_large long refl;
}

pub ends-early : (kind : FileKind) (ws : List ℕ) (rest : ℕ) (d : Progress) → AllLong ws → length ws ≤ most_longwords → read_words (initial_progress kind) 0 ws ≡ Ok d → (rest ≡ 0 → IsComplete d.stack → ⊥) → EndsEarly kind ws rest (length ws) (end_reason rest)
ends-early kind ws rest d longs short h not = record {
  good = read-front kind ws d longs short h;
  not_whole = λ z f. not z (file-complete kind ws d longs h f);
  at_place = refl;
  is_reason = refl;
}

-- after a valid prefix only the longword after it can offend
pub offends-last : (kind : FileKind) (ws : List ℕ) (w place : ℕ) (r : Reason) → IsValidPrefix kind ws → OffendsAt kind (ws ++ (w ∷ [])) place r → place ≡ length ws
offends-last kind ws w place r good o = elim (cuts ws o.front [] o.behind w o.bad o.parts) [
  | same p q ↦ o.at_place ∙ ap (λ x. length x) (sym p)
  | shorter more p ↦
      let long : length o.front ≡ length (ws ++ (w ∷ [])) + length more = ap (λ x. length x) p ∙ length-append (ws ++ (w ∷ [])) more in
      let all : length (ws ++ (w ∷ [])) ≡ length o.front + suc (length o.behind) = ap (λ x. length x) o.parts ∙ length-append o.front (o.bad ∷ o.behind) in
      absurd (omega (arith, long, all))
  | longer more p ↦ absurd (o.no_longer (front-front kind (o.front ++ (o.bad ∷ [])) more (subst (λ x. IsValidPrefix kind x) p good)))
]

-- ---- a file or a first offence

complete-or-not : (s : List Kind) → IsComplete s ⊎ (IsComplete s → ⊥)
complete-or-not [] = inl tt
complete-or-not (unit_type ∷ []) = inl tt
complete-or-not _ = inr (λ x. x)

-- with more longwords after it, the offence is the same
offends-more : (kind : FileKind) (ws us : List ℕ) (p : ℕ) (r : Reason) → OffendsAt kind ws p r → OffendsAt kind (ws ++ us) p r
offends-more kind ws us p r o = record {
  front = o.front;
  bad = o.bad;
  behind = o.behind ++ us;
  parts = ap (λ x. x ++ us) o.parts ∙ append_assoc o.front (o.bad ∷ o.behind) us;
  at_place = o.at_place;
  good = o.good;
  no_longer = o.no_longer;
  blames = o.blames;
}

-- What longwords and bytes are.
abbrev Told : FileKind → List ℕ → ℕ → Type 0
Told kind ws rest = (IsFile kind ws × (rest ≡ 0)) ⊎ ((place : ℕ) × (r : Reason) × FirstOffence kind ws rest place r)

told-early : (kind : FileKind) (ws : List ℕ) (rest : ℕ) (d : Progress) → AllLong ws → length ws ≤ most_longwords → read_words (initial_progress kind) 0 ws ≡ Ok d → (rest ≡ 0 → IsComplete d.stack → ⊥) → Told kind ws rest
told-early kind ws rest d longs short h not = inr (length ws, end_reason rest, end_offends (ends-early kind ws rest d longs short h not))

told-read : (kind : FileKind) (ws : List ℕ) (rest : ℕ) (d : Progress) → AllLong ws → length ws ≤ most_longwords → read_words (initial_progress kind) 0 ws ≡ Ok d → IsComplete d.stack ⊎ (IsComplete d.stack → ⊥) → Told kind ws rest
told-read kind ws zero d longs short h (inl c) = inl (complete-file kind ws d longs short h c, refl)
told-read kind ws zero d longs short h (inr not) = told-early kind ws 0 d longs short h (λ z c. not c)
told-read kind ws (suc rest) d longs short h c = told-early kind ws (suc rest) d longs short h (λ z x. omega arith)

told-within : (kind : FileKind) (ws : List ℕ) (rest : ℕ) (x : Result Progress (ℕ × Reason)) → AllLong ws → length ws ≤ most_longwords → read_words (initial_progress kind) 0 ws ≡ x → Told kind ws rest
told-within kind ws rest (Ok d) longs short h = told-read kind ws rest d longs short h (complete-or-not d.stack)
told-within kind ws rest (Err e) longs short h =
    let s = stops ws (initial_progress kind) 0 e.0 e.1 h in
    let place : e.0 ≡ 0 + length s.front = s.place in
    let long : length ws ≡ length s.front + suc (length s.behind) = ap (λ x. length x) s.parts ∙ length-append s.front (s.bad ∷ s.behind) in
    inr (e.0, e.1, longword_offends (offends-at kind ws e.0 e.1 longs (omega arith) h))

told-beyond : (kind : FileKind) (front behind : List ℕ) (bad rest : ℕ) (x : Result Progress (ℕ × Reason)) → AllLong front → length front ≡ most_longwords → read_words (initial_progress kind) 0 front ≡ x → Told kind (front ++ (bad ∷ behind)) rest
told-beyond kind front behind bad rest (Ok d) longs long h = inr (most_longwords, TooLarge, longword_offends (too-long kind front behind bad d longs long h))
told-beyond kind front behind bad rest (Err e) longs long h =
    let s = stops front (initial_progress kind) 0 e.0 e.1 h in
    let place : e.0 ≡ 0 + length s.front = s.place in
    let parts : length front ≡ length s.front + suc (length s.behind) = ap (λ x. length x) s.parts ∙ length-append s.front (s.bad ∷ s.behind) in
    inr (e.0, e.1, longword_offends (offends-more kind front (bad ∷ behind) e.0 e.1 (offends-at kind front e.0 e.1 longs (omega arith) h)))

within-or-beyond : (a b : ℕ) → (a ≤ b) ⊎ (b < a)
within-or-beyond a b = grind arith

pub file-or-offence : (kind : FileKind) (ws : List ℕ) (rest : ℕ) → AllLong ws → Told kind ws rest
file-or-offence kind ws rest longs =
    elim (within-or-beyond (length ws) most_longwords) [
      | inl short ↦ told-within kind ws rest (read_words (initial_progress kind) 0 ws) longs short refl
      | inr long ↦
          let c = cut most_longwords ws long in
          subst (λ x. Told kind x rest) (sym c.3)
          (told-beyond kind c.0 c.2 c.1 rest (read_words (initial_progress kind) 0 c.0) (long-append c.0 (c.1 ∷ c.2) (subst (λ x. AllLong x) c.3 longs)).0 c.4 refl)
    ]

-- ---- never both

-- a valid prefix has no offence
front-no-offence : (kind : FileKind) (ws : List ℕ) (p : ℕ) (r : Reason) → IsValidPrefix kind ws → OffendsAt kind ws p r → ⊥
front-no-offence kind ws p r g o =
    o.no_longer (front-front kind (o.front ++ (o.bad ∷ [])) o.behind (subst (λ x. IsValidPrefix kind x) (o.parts ∙ sym (append_assoc o.front (o.bad ∷ []) o.behind)) g))

pub file-no-offence : (kind : FileKind) (ws : List ℕ) (place : ℕ) (r : Reason) → IsFile kind ws → FirstOffence kind ws 0 place r → ⊥
file-no-offence kind ws place r f (longword_offends o) = front-no-offence kind ws place r (file-front kind ws f) o
file-no-offence kind ws place r f (end_offends e) = e.not_whole refl f

-- ---- uniqueness

-- after the most longwords nothing else is blamed
blames-most : (kind : FileKind) (ws : List ℕ) (bad : ℕ) (r : Reason) → length ws ≡ most_longwords → Blames kind ws bad r → r ≡ TooLarge
blames-most kind ws bad r long (too_large _ is) = is
blames-most kind ws bad r long (behind_file short _ _ _) = absurd (omega arith)
blames-most kind ws bad r long (longword short _ _ _) = absurd (omega arith)
blames-most kind ws bad r long (upper_half short _ _ _) = absurd (omega arith)
blames-most kind ws bad r long (lower_half short _ _ _ _ _) = absurd (omega arith)

blames-one : (kind : FileKind) (ws : List ℕ) (bad : ℕ) (r s : Reason) → IsValidPrefix kind ws → Blames kind ws bad r → Blames kind ws bad s → r ≡ s
blames-one kind ws bad r s g b c =
    elim (within-or-beyond most_longwords (length ws)) [
      | inl most ↦
          let short : length ws ≤ most_longwords = g.short_enough in
          let long : length ws ≡ most_longwords = omega arith in
          blames-most kind ws bad r long b ∙ sym (blames-most kind ws bad s long c)
      | inr short ↦
          let d = front-read kind ws g in
          let both : ◌≡◌ {A = Result Progress Reason} (Err r) (Err s) = sym (reason-read kind ws d.0 bad r d.2 short b) ∙ reason-read kind ws d.0 bad s d.2 short c in
          cc
    ]

offends-one : (kind : FileKind) (ws : List ℕ) (p q : ℕ) (r s : Reason) → OffendsAt kind ws p r → OffendsAt kind ws q s → (p ≡ q) × (r ≡ s)
offends-one kind ws p q r s o u =
    elim (cuts o.front u.front o.behind u.behind o.bad u.bad (sym o.parts ∙ u.parts)) [
      | same e f ↦ (
        o.at_place ∙ ap (λ x. length x) e ∙ sym u.at_place,
        blames-one kind u.front u.bad r s u.good (subst (λ x. Blames kind u.front x r) f (subst (λ x. Blames kind x o.bad r) e o.blames)) u.blames,
      )
      | shorter more e ↦ absurd (o.no_longer (front-front kind (o.front ++ (o.bad ∷ [])) more (subst (λ x. IsValidPrefix kind x) e u.good)))
      | longer more e ↦ absurd (u.no_longer (front-front kind (u.front ++ (u.bad ∷ [])) more (subst (λ x. IsValidPrefix kind x) e o.good)))
    ]

pub first-one : (kind : FileKind) (ws : List ℕ) (rest p q : ℕ) (r s : Reason) → FirstOffence kind ws rest p r → FirstOffence kind ws rest q s → (p ≡ q) × (r ≡ s)
first-one kind ws rest p q r s (longword_offends o) (longword_offends u) = offends-one kind ws p q r s o u
first-one kind ws rest p q r s (longword_offends o) (end_offends e) = absurd (front-no-offence kind ws p r e.good o)
first-one kind ws rest p q r s (end_offends e) (longword_offends o) = absurd (front-no-offence kind ws q s e.good o)
first-one kind ws rest p q r s (end_offends e) (end_offends f) = (e.at_place ∙ sym f.at_place, e.is_reason ∙ sym f.is_reason)
