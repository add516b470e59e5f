-- The document and the end of its line are put into a text that is finished.
use Rattle.std.proofs.Common.{[], rules}
use Rattle.hunk_base.proofs.TextLemmas.{◌⨾◌}
use Rattle.hunk_json.proofs.run.write_line.Goals as goal

pub returns-clause-wrote : goal.returns-clause-wrote
returns-clause-wrote g c =
    let pieces = c.write_file.ensures ⨾ c.end_line.ensures in
    let wrote = c.finish.ensures.counted c.args.writer.now _ c.requires (pieces.adds _ [] c.new-text.ensures.empty) in
    search (rules, wrote)
