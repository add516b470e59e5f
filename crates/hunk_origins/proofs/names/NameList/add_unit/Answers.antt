-- One more hunk, and all of them.
use Rattle.std.proofs.Common.{◌∙◌, ◌++◌, List, Some, ap, append_assoc, sym, take}
use Rattle.std.specs.List.{flat_map}
use Rattle.hunk_origins.specs.Names.{Entry, hunk_entries}
use Rattle.hunk_tool.specs.ObjectFiles.{FileUnit}
use Rattle.hunk_origins.specs.Origins.{Origin, origins_from}
use Rattle.hunk_origins.proofs.NamesLemmas.{origin_of, origins-all, origins-more}
use Rattle.hunk_origins.proofs.names.NameList.add_unit.Goals as goal

pub loop-number-preserved : goal.loop-number-preserved
loop-number-preserved g c = λ all defined.
    let unit : FileUnit = (c.args.place, c.args.unit.now) in
    let number = c.loop-number.number in
    let hunk = c.hunk-item.result in
    let hunks = c.hunks-hunk-items.result.now in
    let entries = hunk_entries all (Some c.args.index) in
    c.in_ok-add_hunk.ensures all defined
    ∙ ap (λ (made : List Entry). made ++ entries (origin_of unit (number, hunk))) (c.loop-number.invariant all defined)
    ∙ append_assoc c.args.self.now (flat_map entries (take number (origins_from unit 0 hunks))) (entries (origin_of unit (number, hunk)))
    ∙ ap (λ (made : List Entry). c.args.self.now ++ made) (sym (origins-more entries unit hunks number hunk c.loop-number-test.true c.hunk-item.is))

pub returns : goal.returns
returns g c = λ all defined.
    let unit : FileUnit = (c.args.place, c.args.unit.now) in
    let number = c.loop-number.number in
    let entries = hunk_entries all (Some c.args.index) in
    c.loop-number.invariant all defined
    ∙ ap (λ (hs : List Origin). c.args.self.now ++ flat_map entries hs) (origins-all unit c.hunks-hunk-items.result.now number c.loop-number-test.false ∙ ap (origins_from unit 0) c.hunks-hunk-items.ensures.value)
