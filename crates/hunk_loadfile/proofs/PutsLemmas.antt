-- Lists in two parts, and texts in more: numbers, chunks, and a rest that could not be made.
use Rattle.std.proofs.Common.{◌≡◌, ◌+◌, ◌∙◌, ℕ, List, [], ◌++◌, length, Bool, Option, sym, ap, subst, append_assoc, arith}
use Rattle.std.proofs.lemmas.Grind.{flat_map-append}
use Rattle.std.proofs.lemmas.List.{length-append, take-append-le}
use Rattle.std.proofs.lemmas.List.Elements.{All-drop, All-take}
use Rattle.std.proofs.Math.Seq.{drop-append_seam, take-append-add, take-append_seam}
use Rattle.std.specs.List.{All, flat_map}
use Rattle.hunk_base.specs.Text.{Puts, PutsFront}
use Rattle.hunk_base.specs.declared.text.Text.{Text}
use Rattle.hunk_base.proofs.TextLemmas.{Puts-then, Walked, Walked-none}
use Rattle.hunk_loadfile.specs.declared.number_width.NumberWidth.{NumberWidth}
use Rattle.hunk_loadfile.specs.NumberWidth.{bytes_in}
use Rattle.hunk_loadfile.proofs.NumberWidthLemmas.{bytes_in-append}

-- ---- lists in two parts

module _ {X : Type 0} (P : X → Type 0) (front behind whole : List X) (parts : whole ≡ front ++ behind) (all : All P whole) where
  pub All-front : All P front
  All-front = subst (All P) (take-append_seam front behind) (All-take P (length front) (front ++ behind) (subst (All P) parts all))

  pub All-behind : All P behind
  All-behind = subst (All P) (drop-append_seam front behind) (All-drop P (length front) (front ++ behind) (subst (All P) parts all))

-- ---- texts

module _ {W : Type 0} (taken : W → Option (List ℕ)) (failed : W → Bool) where
  -- numbers, and then others
  pub Puts-numbers : (width : NumberWidth) (first rest : List ℕ) {old between new : Text W}
      → Puts taken failed old between (bytes_in width first) → Puts taken failed between new (bytes_in width rest)
      → Puts taken failed old new (bytes_in width (first ++ rest))
  Puts-numbers width first rest {old} {between} {new} one other =
      subst (λ text. Puts taken failed old new text) (sym (bytes_in-append width first rest)) (Puts-then taken failed one other)

  -- nothing of a piece
  pub PutsFront-nothing : (piece : List ℕ) {old new : Text W} → Puts taken failed old new [] → PutsFront taken failed old new piece
  PutsFront-nothing piece nothing = record { front = 0; within = omega arith; puts = nothing }

  -- a piece, and then the first bytes of another
  pub PutsFront-behind : {old between new : Text W} {first rest : List ℕ} → Puts taken failed old between first → PutsFront taken failed between new rest → PutsFront taken failed old new (first ++ rest)
  PutsFront-behind {old} {between} {new} {first} {rest} one other =
      record {
        front = length first + other.front;
        within = omega (arith, other.within, length-append first rest);
        puts = subst (λ text. Puts taken failed old new text) (sym (take-append-add first rest other.front)) (Puts-then taken failed one other.puts);
      }

  -- the first bytes of a piece that others follow
  pub PutsFront-before : {old new : Text W} {first : List ℕ} (rest : List ℕ) → PutsFront taken failed old new first → PutsFront taken failed old new (first ++ rest)
  PutsFront-before {old} {new} {first} rest one =
      record {
        front = one.front;
        within = omega (arith, one.within, length-append first rest);
        puts = subst (λ text. Puts taken failed old new text) (sym (take-append-le one.front first rest one.within)) one.puts;
      }

  -- no lines yet
  pub Walked-begun : {X : Type 0} (lines : X → List ℕ) (text : Text W) {left all : List X} → left ≡ all → Walked taken failed lines text text left all
  Walked-begun lines text {left} {all} is = subst (λ xs. Walked taken failed lines text text xs all) (sym is) (Walked-none taken failed lines text all)

  -- the lines of one more chunk
  pub Walked-chunk : {X : Type 0} (lines : X → List ℕ) (chunk : List X) {old between new : Text W} {left all rest : List X}
      → Walked taken failed lines old between left all → left ≡ chunk ++ rest → Puts taken failed between new (flat_map lines chunk)
      → Walked taken failed lines old new rest all
  Walked-chunk lines chunk {old} {between} {new} {left} {all} {rest} walked parts other =
      record {
        done = walked.done ++ chunk;
        parts = append_assoc walked.done chunk rest ∙ ap (λ xs. walked.done ++ xs) (sym parts) ∙ walked.parts;
        puts =
            subst (λ text. Puts taken failed old new text) (sym (flat_map-append lines walked.done chunk))
            (Puts-then taken failed walked.puts other);
      }
