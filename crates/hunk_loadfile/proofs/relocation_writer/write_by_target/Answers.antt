-- The short block, and then the other one.
use Rattle.std.proofs.Common.{◌<◌, ℕ, not, sym, subst}
use Rattle.hunk_loadfile.specs.LoadForm.{is_short, long_sites, short_sites}
use Rattle.hunk_loadfile.specs.RelocationWriter.{AreByTarget}
use Rattle.hunk_loadfile.specs.WrittenForm.{short_words, site_words}
use Rattle.hunk_loadfile.specs.declared.number_width.NumberWidth.TheVariants.{Longword}
use Rattle.hunk_loadfile.proofs.PutsLemmas.{Puts-numbers}
use Rattle.hunk_loadfile.proofs.RelocationWriterLemmas.{All-block, long-bytes, short-bytes}
use Rattle.hunk_loadfile.proofs.relocation_writer.write_by_target.Goals as goal

pub returns-clause-wrote : goal.returns-clause-wrote
returns-clause-wrote g c = λ count all.
    let form = c.args.form in
    let sites = c.args.sites.now in
    let first = c.deref.result.now in
    let second = c.deref-2.result.now in
    let first_order = subst (AreByTarget (short_sites form sites.entries)) (sym c.deref.ensures.value) c.in_ok-short.ensures.short in
    let second_order = subst (AreByTarget (long_sites form sites.entries)) (sym c.deref-2.ensures.value) c.in_ok-short.ensures.long in
    let Below = λ (site : ℕ × ℕ). site.1 < count in
    let first_bytes = short-bytes form sites.limit sites.entries count first first_order c.requires.apart c.requires.targets in
    let second_bytes = long-bytes form sites.limit sites.entries count second second_order in
    let first_put = c.write_block.ensures count (All-block form sites.limit sites.entries (λ e. is_short form e.0) Below first first_order all) in
    let second_put = c.write_block-2.ensures count (All-block form sites.limit sites.entries (λ e. not (is_short form e.0)) Below second second_order all) in
    Puts-numbers g.W.Sink.taken g.W.Sink.failed Longword (short_words count (short_sites form sites.entries)) (site_words count (long_sites form sites.entries)) (rw first_bytes at first_put) (rw second_bytes at second_put)
