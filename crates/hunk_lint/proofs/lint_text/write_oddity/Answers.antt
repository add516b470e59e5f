-- The number follows, if there is one.
use Rattle.std.proofs.Common.{◌≡◌, ℕ, [], ◌++◌, ◌∙◌, ap, sym, refl, append-nil}
use Rattle.std.specs.Fmt.{decimal}
use Rattle.hunk_base.proofs.TextLemmas.{◌⨾◌, Puts-as}
use Rattle.hunk_lint.specs.LintText.{oddity_front, oddity_number}
use Rattle.hunk_lint.specs.declared.oddity.Oddity.{Oddity}
use Rattle.hunk_lint.specs.declared.oddity.Oddity.TheVariants.{SameHunk}
use Rattle.hunk_lint.proofs.lint_text.write_oddity.Goals as goal

no-number : (oddity : Oddity) → ((hunk : ℕ) → oddity ≡ SameHunk hunk → ⊥) → oddity_number oddity ≡ []
no-number (SameHunk hunk) other = absurd (other hunk refl)
no-number oddity other = refl

pub returns-in-SameHunk : goal.returns-in-SameHunk
returns-in-SameHunk g c =
    Puts-as (c.as_bytes.ensures.value ∙ c.oddity_front.ensures) c.put.ensures
    ⨾ Puts-as (ap decimal c.from.ensures ∙ sym (ap oddity_number c.in-SameHunk.is)) c.put_decimal.ensures

pub returns-in_default : goal.returns-in_default
returns-in_default g c =
    let front = oddity_front c.args.oddity in
    Puts-as (c.as_bytes.ensures.value ∙ c.oddity_front.ensures ∙ sym (append-nil front) ∙ ap (λ number. front ++ number) (sym (no-number c.args.oddity c.in_default.not-SameHunk))) c.put.ensures
