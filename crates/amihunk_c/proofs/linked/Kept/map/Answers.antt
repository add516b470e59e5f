-- What the writer has taken is the map.
use Rattle.std.proofs.Common.{List, [], ap, map, rules}
use Rattle.hunk_loadfile.specs.LoadHunk.{FileHunk}
use Rattle.hunk_origins.specs.Map.{map_text}
use Rattle.hunk_tool.specs.ObjectFiles.{FileUnit}
use Rattle.amihunk_c.proofs.linked.Kept.map.Goals as goal

pub returns-in-Ok : goal.returns-in-Ok
returns-in-Ok c =
    let wrote = c.in-Ok.ensures.wrote _ _ (c.write_map.ensures.adds _ [] c.new-text.ensures.empty) in
    let text = ap (λ (kept : List FileUnit × List FileHunk). map_text (map (λ name. name.now) c.args.names.now) kept.1 kept.0) c.self.view_is in
    search (rules, wrote, text)
