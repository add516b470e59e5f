use Rattle.amihunk.proofs.RequestLemmas.{some_files}
use Rattle.amihunk.proofs.command_line.has_files.Goals as goal

pub returns : goal.returns
returns c = rw c.is_empty.ensures (some_files c.args.files.now)
