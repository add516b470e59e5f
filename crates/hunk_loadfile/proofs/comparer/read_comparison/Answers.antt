use Rattle.std.proofs.Common.{◌≡◌, ◌∙◌, List, ap}
use Rattle.std.proofs.lemmas.Result.{err_from_is_err_and}
use Rattle.hunk_base.proofs.StreamsLemmas.{HasRead-weaker}
use Rattle.hunk_words.specs.declared.event.FileKind.TheVariants.{Load}
use Rattle.hunk_words.proofs.DecoderRefusalLemmas.{read-refused, read-stopped, refuses-input}
use Rattle.hunk_loadfile.specs.Comparer.{StandsFor, words_of}
use Rattle.hunk_loadfile.specs.LoadHunk.{FileHunk}
use Rattle.hunk_loadfile.specs.declared.load_form.LoadForm.TheVariants.{Plain}
use Rattle.hunk_loadfile.proofs.WrittenFormLemmas.{written_in-one}
use Rattle.hunk_loadfile.proofs.comparer.read_comparison.Goals as goal

pub returns-in_err-read_all-clause-refused : goal.returns-in_err-read_all-clause-refused
returns-in_err-read_all-clause-refused g c =
    let p = err_from_is_err_and c.from_residual.result c.from_residual.ensures.1 in
    rw (p.1, p.2) (read-stopped Load StandsFor c.read_all.new.decoder _ _ (g.R.Source.ended c.read_all.new.reader) (g.R.Source.failed c.read_all.new.reader) _ c.in_err-read_all.ensures.stopped)

pub returns-in_err-finish-clause-refused : goal.returns-in_err-finish-clause-refused
returns-in_err-finish-clause-refused g c =
    let p = err_from_is_err_and c.from_residual-in_err-finish.result c.from_residual-in_err-finish.ensures.1 in
    rw (p.1, p.2)
    (read-refused Load _ _ _ _ (g.R.Source.failed c.read_all.new.reader) _ c.in_ok-read_all.ensures.ended c.in_ok-read_all.ensures.whole
    (λ bytes stands. refuses-input Load (StandsFor {A = g.row.A.Denot}) bytes _ (c.in_err-finish.ensures.answer bytes stands)))

pub returns-clause-compared : goal.returns-clause-compared
returns-clause-compared g c = HasRead-weaker _ _ _ _ (λ bytes stands. c.finish-2.ensures.compared bytes (c.in_ok-finish.ensures.answer bytes stands)) c.in_ok-read_all.ensures.whole

pub returns-clause-first : goal.returns-clause-first
returns-clause-first g c =
    let given : words_of c.in_ok-finish.field-0.first ≡ words_of c.args.first =
    c.in_ok-finish.ensures.given ∙ c.in_ok-read_all.ensures.given ∙ c.new-decoder.ensures.given ∙ ap (λ (hunks : List FileHunk). words_of hunks) c.new.ensures.first in
    c.finish-2.ensures.first ∙ written_in-one Plain c.in_ok-finish.field-0.first c.args.first c.finish-2.ensures.valid c.new.ensures.valid given
