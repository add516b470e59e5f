use Rattle.std.proofs.Common.{◌∙◌, ◌∷◌, ◌++◌, [], Some, ap, arith, subst, sym}
use Rattle.std.proofs.lemmas.Grind.{common_steps}
use Rattle.std.proofs.lemmas.Result.{IfErr-weaker, IfOk-weaker}
use Rattle.hunk_addresses.specs.BasesFile.{StandsFor}
use Rattle.hunk_addresses.proofs.BasesFileLemmas.{no_digits, rejected, rejected-after, stands-separator}
use Rattle.hunk_addresses.proofs.bases_file.FoundBases.push.Goals as goal

pub returns-then-is_separator-clause-stands : goal.returns-then-is_separator-clause-stands
returns-then-is_separator-clause-stands g c =
    IfOk-weaker c.end_part.result _ _
    (λ done ends bytes stands. subst (λ items. StandsFor items c.end_part.new.self.digits (bytes ++ c.args.byte ∷ [])) (sym ends)
    (stands-separator c.args.self.now.bases.items c.args.self.now.digits c.end_part.new.self.digits bytes c.args.byte c.args.self.now.digits.few
    (sym c.is_separator.ensures ∙ c.if-is_separator.true) (no_digits c.end_part.new.self.digits c.end_part.ensures.none) stands))
    c.end_part.ensures.ends

pub returns-then-is_separator-clause-rejected : goal.returns-then-is_separator-clause-rejected
returns-then-is_separator-clause-rejected g c =
    IfErr-weaker c.end_part.result _ _ (λ fault is bytes stands. rejected-after bytes (c.args.byte ∷ []) fault (is bytes stands)) c.end_part.ensures.rejected

pub returns-in_default-clause-rejected : goal.returns-in_default-clause-rejected
returns-in_default-clause-rejected g c bytes stands rest =
    rejected c.args.self.now.bases.items c.args.self.now.digits bytes c.args.byte rest (sym c.is_separator.ensures ∙ c.if-is_separator.false) stands c.in_default.ensures
    ∙ ap Some (omega (arith, c.len.ensures))

-- `grind` at once: `search`, which Rattle tries before it, is slow here
pub returns-clause-stands : goal.returns-clause-stands
returns-clause-stands g c = grind (arith, common_steps)
