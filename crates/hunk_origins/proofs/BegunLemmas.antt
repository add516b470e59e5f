-- A text of which some has been put, and the rest is left.
use Rattle.std.proofs.Common.{◌≡◌, ◌∙◌, ℕ, List, [], ◌++◌, Bool, Option, ap, append-nil, append_assoc, sym}
use Rattle.hunk_base.specs.Text.{Puts}
use Rattle.hunk_base.specs.declared.text.Text.{Text}
use Rattle.hunk_base.proofs.TextLemmas.{◌⨾◌, Puts-as, Puts-nothing}

pub record Begun {W : Type 0} (taken : W → Option (List ℕ)) (failed : W → Bool) (old new : Text W) (whole rest : List ℕ) : Type 0 where
  pub done : List ℕ
  pub parts : done ++ rest ≡ whole
  pub puts : Puts taken failed old new done

module _ {W : Type 0} (taken : W → Option (List ℕ)) (failed : W → Bool) where
  -- nothing has been put
  pub Begun-nothing : (text : Text W) (whole rest : List ℕ) → rest ≡ whole → Begun taken failed text text whole rest
  Begun-nothing text whole rest all = record { done = []; parts = all; puts = Puts-nothing taken failed text }

  -- one more part
  pub Begun-more : {old between new : Text W} {whole left part rest : List ℕ} → left ≡ part ++ rest
      → Begun taken failed old between whole left → Puts taken failed between new part → Begun taken failed old new whole rest
  Begun-more {part = part} {rest = rest} parts begun puts = record {
    done = begun.done ++ part;
    parts = append_assoc begun.done part rest ∙ ap (λ text. begun.done ++ text) (sym parts) ∙ begun.parts;
    puts = begun.puts ⨾ puts;
  }

  -- the rest
  pub Begun-last : {old between new : Text W} {whole rest : List ℕ} → Begun taken failed old between whole rest → Puts taken failed between new rest → Puts taken failed old new whole
  Begun-last begun puts = Puts-as begun.parts (begun.puts ⨾ puts)

  -- nothing is left
  pub Begun-done : {old new : Text W} {whole rest : List ℕ} → rest ≡ [] → Begun taken failed old new whole rest → Puts taken failed old new whole
  Begun-done none begun = Puts-as (sym (append-nil begun.done) ∙ ap (λ text. begun.done ++ text) (sym none) ∙ begun.parts) begun.puts
