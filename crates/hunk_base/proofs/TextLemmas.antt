-- Pieces of a text, one after another.
use Rattle.std.proofs.Common.{◌≡◌, ◌<◌, ◌≤◌, ◌+◌, ◌∙◌, ℕ, List, [], ◌∷◌, ◌++◌, length, take, get_or, Bool, true, false, ◌||◌, Option, sym, ap, refl, subst, append-nil, append_assoc, zero-add, arith}
use Rattle.std.proofs.lemmas.Grind.{flat_map-append}
use Rattle.std.proofs.lemmas.List.{length-append, take-append-le, take_all, take_more}
use Rattle.std.proofs.KnownBytes.{Appends-trans}
use Rattle.std.specs.Io.KnownBytes.{Appends}
use Rattle.std.proofs.lemmas.List.FromFn.{get_or-enumerate_from, length-enumerate_from}
use Rattle.std.specs.List.{enumerate_from, flat_map}
use Rattle.hunk_base.specs.Text.{Puts, Holds, counted_to}
use Rattle.hunk_base.specs.declared.text.Text.{Text}

module _ {W : Type 0} (taken : W → Option (List ℕ)) (failed : W → Bool) where
  -- no bytes
  pub Puts-nothing : (text : Text W) → Puts taken failed text text []
  Puts-nothing text =
      record {
        same = refl;
        adds = λ start bytes holds. subst (λ b. Holds taken failed start text b) (sym (append-nil bytes)) holds;
      }

  -- one piece, and then another
  pub Puts-then : {old between new : Text W} {first rest : List ℕ} → Puts taken failed old between first → Puts taken failed between new rest → Puts taken failed old new (first ++ rest)
  Puts-then {old} {between} {new} {first} {rest} one other =
      record {
        same = other.same ∙ one.same;
        adds = λ start bytes holds. subst (λ b. Holds taken failed start new b) (append_assoc bytes first rest) (other.adds start (bytes ++ first) (one.adds start bytes holds));
      }

  -- a text that has stopped takes no more
  pub Puts-stopped : (text : Text W) (piece : List ℕ) → text.stopped ≡ true → Puts taken failed text text piece
  Puts-stopped text piece stopped =
      record {
        same = refl;
        adds = λ start bytes holds. record {
          front = holds.front;
          within = omega (arith, holds.within, length-append bytes piece);
          counted = holds.counted;
          moved = subst (Appends (taken start) (taken text.writer.now)) (sym (take-append-le holds.front bytes piece holds.within)) holds.moved;
          fails = holds.fails;
          whole = λ going. absurd (cc);
        };
      }

  -- the parts up to one of them
  pub Puts-more : {X : Type 0} (part : X → List ℕ) (xs : List X) (index : ℕ) (x d : X) {old between new : Text W}
      → index < length xs → x ≡ get_or xs index d
      → Puts taken failed old between (flat_map part (take index xs)) → Puts taken failed between new (part x)
      → Puts taken failed old new (flat_map part (take (index + 1) xs))
  Puts-more part xs index x d {old} {between} {new} within is one other =
      let parts : flat_map part (take (index + 1) xs) ≡ flat_map part (take index xs) ++ part x =
      ap (flat_map part) (take_more xs index d within) ∙ flat_map-append part (take index xs) (get_or xs index d ∷ [])
      ∙ ap (λ last. flat_map part (take index xs) ++ last) (append-nil (part (get_or xs index d)) ∙ ap part (sym is)) in
      subst (λ t. Puts taken failed old new t) (sym parts) (Puts-then one other)

  -- what the writer took of one write, while the text had not stopped
  pub Puts-took : (old new : Text W) (piece : List ℕ) → old.stopped ≡ false → new.stopped ≡ false
      → new.writer.ghost_name ≡ old.writer.ghost_name
      → new.taken ≡ counted_to (old.taken + length piece)
      → Appends (taken old.writer.now) (taken new.writer.now) piece
      → failed new.writer.now ≡ failed old.writer.now
      → Puts taken failed old new piece
  Puts-took old new piece going goes same counted moved quiet =
      record {
        same = same;
        adds = λ start bytes holds.
            let all : holds.front ≡ length bytes = holds.whole going in
            let lengths = length-append bytes piece in
            let before : Appends (taken start) (taken old.writer.now) bytes =
            subst (Appends (taken start) (taken old.writer.now)) (take_all holds.front bytes (omega (arith, all))) holds.moved in
            record {
              front = length (bytes ++ piece);
              within = omega arith;
              counted = omega (arith, counted, holds.counted, all, lengths);
              moved =
                  subst (Appends (taken start) (taken new.writer.now)) (sym (take_all (length (bytes ++ piece)) (bytes ++ piece) (omega arith)))
                  (Appends-trans (taken start) (taken old.writer.now) (taken new.writer.now) bytes piece before moved);
              fails = quiet ∙ holds.fails ∙ ap (λ s. s || failed start) (going ∙ sym goes);
              whole = λ still. refl;
            };
      }

  -- the elements with their numbers up to one of them
  pub Puts-numbered : {X : Type 0} (lines : ℕ × X → List ℕ) (xs : List X) (number : ℕ) (x : X) {old between new : Text W}
      → number < length xs → x ≡ get_or xs number x
      → Puts taken failed old between (flat_map lines (take number (enumerate_from 0 xs))) → Puts taken failed between new (lines (number, x))
      → Puts taken failed old new (flat_map lines (take (number + 1) (enumerate_from 0 xs)))
  Puts-numbered {X} lines xs number x within is one other =
      let with_number : ℕ → ℕ × X = λ n. (n, get_or xs number x) in
      let with_element : X → ℕ × X = λ y. (number, y) in
      Puts-more lines (enumerate_from 0 xs) number (number, x) (number, x) (omega (arith, length-enumerate_from 0 xs))
      (ap with_element is ∙ sym (ap with_number (zero-add number)) ∙ sym (get_or-enumerate_from 0 xs number (number, x) within)) one other

-- all elements with their numbers
pub numbered-all : {X : Type 0} (xs : List X) (number : ℕ) → length xs ≤ number → take number (enumerate_from 0 xs) ≡ enumerate_from 0 xs
numbered-all xs number all = take_all number (enumerate_from 0 xs) (omega (arith, length-enumerate_from 0 xs))

-- Lines were put for the elements before those that are left.
pub record Walked {W X : Type 0} (taken : W → Option (List ℕ)) (failed : W → Bool) (lines : X → List ℕ) (old new : Text W) (left all : List X) : Type 0 where
  pub done : List X
  pub parts : done ++ left ≡ all
  pub puts : Puts taken failed old new (flat_map lines done)

module _ {W X : Type 0} (taken : W → Option (List ℕ)) (failed : W → Bool) (lines : X → List ℕ) where
  -- none yet
  pub Walked-none : (text : Text W) (all : List X) → Walked taken failed lines text text all all
  Walked-none text all = record { done = []; parts = refl; puts = Puts-nothing taken failed text }

  -- those of one more
  pub Walked-more : {old between new : Text W} {left all rest : List X} (x : X)
      → Walked taken failed lines old between left all → left ≡ x ∷ rest → Puts taken failed between new (lines x)
      → Walked taken failed lines old new rest all
  Walked-more {old = old} {new = new} {rest = rest} x walked next other =
      record {
        done = walked.done ++ x ∷ [];
        parts = append_assoc walked.done (x ∷ []) rest ∙ ap (λ xs. walked.done ++ xs) (sym next) ∙ walked.parts;
        puts =
            subst (λ text. Puts taken failed old new text) (sym (flat_map-append lines walked.done (x ∷ []) ∙ ap (λ last. flat_map lines walked.done ++ last) (append-nil (lines x))))
            (Puts-then taken failed walked.puts other);
      }

  -- those of all
  pub Walked-all : {old new : Text W} {left all : List X} → Walked taken failed lines old new left all → left ≡ [] → Puts taken failed old new (flat_map lines all)
  Walked-all {old} {new} walked none =
      subst (λ xs. Puts taken failed old new (flat_map lines xs)) (sym (append-nil walked.done) ∙ ap (λ rest. walked.done ++ rest) (sym none) ∙ walked.parts) walked.puts

infixl 10 ◌⨾◌
-- one piece, and then another
pub ◌⨾◌ : {W : Type 0} {taken : W → Option (List ℕ)} {failed : W → Bool} {old between new : Text W} {first rest : List ℕ}
    → Puts taken failed old between first → Puts taken failed between new rest → Puts taken failed old new (first ++ rest)
◌⨾◌ {taken = taken} {failed = failed} one other = Puts-then taken failed one other

-- the same piece, spelt otherwise
pub Puts-as : {W : Type 0} {taken : W → Option (List ℕ)} {failed : W → Bool} {old new : Text W} {piece other : List ℕ} → piece ≡ other → Puts taken failed old new piece → Puts taken failed old new other
Puts-as {taken = taken} {failed = failed} {old = old} {new = new} same puts = subst (λ text. Puts taken failed old new text) same puts
