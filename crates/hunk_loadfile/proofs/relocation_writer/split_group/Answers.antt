-- The sites ascend, so those after the first ones of a target are above it.
use Rattle.hunk_loadfile.proofs.RelocationWriterLemmas.{IsGroup-split}
use Rattle.hunk_loadfile.proofs.relocation_writer.split_group.Goals as goal

pub returns : goal.returns
returns c =
    let count = c.group_length.ensures in
    let split = c.split_at.ensures in
    IsGroup-split c.args.target c.group_length.result c.split_at.result.0.now c.split_at.result.1.now c.args.pairs.now split.front split.back c.requires.rise count.within c.requires.some c.requires.first count.before count.stops
