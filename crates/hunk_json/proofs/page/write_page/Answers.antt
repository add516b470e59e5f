-- The pieces are put into a text that is finished.
use Rattle.std.proofs.Common.{[], rules}
use Rattle.hunk_base.proofs.TextLemmas.{◌⨾◌, Puts-as}
use Rattle.hunk_json.proofs.page.write_page.Goals as goal

pub returns-clause-wrote : goal.returns-clause-wrote
returns-clause-wrote g c =
    let head = Puts-as c.page_head.ensures c.put.ensures in
    let tail = Puts-as c.page_tail.ensures c.put-2.ensures in
    let pieces = head ⨾ c.write_file.ensures ⨾ tail in
    let wrote = c.finish.ensures.counted c.args.writer.now _ c.requires (pieces.adds _ [] c.new-text.ensures.empty) in
    search (rules, wrote)
