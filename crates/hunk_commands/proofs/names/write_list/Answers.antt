-- The list is put into a text that is finished.
use Rattle.std.proofs.Common.{[], rules}
use Rattle.hunk_commands.proofs.names.write_list.Goals as goal

pub returns : goal.returns
returns g c =
    let wrote = c.finish.ensures.wrote c.args.writer.now _ (c.write_names.ensures.adds _ [] c.new-text.ensures.empty) in
    search (rules, wrote)
