-- The symbol that the second file has there is the one that was found.
use Rattle.std.proofs.Common.{Bool, List, ap, sym, ◌∙◌}
use Rattle.std.specs.Prelude.{option_copied}
use Rattle.hunk_base.proofs.TextLemmas.{Puts-as}
use Rattle.hunk_base.specs.Text.{line}
use Rattle.hunk_loadfile.specs.LoadHunk.{FileHunk}
use Rattle.hunk_text.specs.DifferenceText.{info_difference_told}
use Rattle.hunk_tool.specs.Compare.{comparison}
use Rattle.hunk_tool.proofs.CompareLemmas.{info-text}
use Rattle.hunk_tool.proofs.compare.write_comparison.Goals as goal

pub returns-in-Some-info_difference-clause-puts : goal.returns-in-Some-info_difference-clause-puts
returns-in-Some-info_difference-clause-puts g c = λ seconds compares.
    let firsts = c.args.first.now in
    let difference = c.in-Some-info_difference.difference in
    Puts-as
    (ap (λ (hunks : List FileHunk). line (info_difference_told hunks (option_copied c.as_ref.result) difference)) c.hunks.ensures.value
    ∙ ap (λ symbol. line (info_difference_told firsts symbol difference)) c.as_ref.ensures.value
    ∙ info-text c.args.found.now firsts seconds compares difference c.in_default.is c.in-Some-info_difference.is
    ∙ ap (λ (with_symbols : Bool). comparison with_symbols firsts seconds) (sym c.if-not-with_symbols.false))
    c.write_info_difference.ensures
