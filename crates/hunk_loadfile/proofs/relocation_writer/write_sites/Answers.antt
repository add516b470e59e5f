-- Where all sites have one target, their blocks are those of all hunks.
use Rattle.std.proofs.Common.{◌<◌, subst}
use Rattle.hunk_base.specs.Text.{Puts}
use Rattle.hunk_loadfile.proofs.RelocationWriterLemmas.{block_bytes-both, target-below}
use Rattle.hunk_loadfile.proofs.relocation_writer.write_sites.Goals as goal

pub returns-in-Some-clause-wrote : goal.returns-in-Some-clause-wrote
returns-in-Some-clause-wrote g c = λ count all.
    let sites = c.args.sites.now in
    let target = c.in-Some.target in
    let below : target < count = target-below target count sites.entries c.in-Some.ensures.some c.in-Some.ensures.same all in
    subst (λ text. Puts g.W.Sink.taken g.W.Sink.failed c.args.text.now c.write_to_one_target.new.text text)
    (block_bytes-both c.args.form sites.limit sites.entries count c.requires.apart c.requires.targets) (c.write_to_one_target.ensures count below)
