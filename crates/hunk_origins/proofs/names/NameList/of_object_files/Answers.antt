-- The names of one more unit, and of all.
use Rattle.std.proofs.Common.{◌∙◌, ◌≤◌, ◌<◌, ◌++◌, List, ap, get_or, length, subst, sym, arith}
use Rattle.std.specs.List.{flat_map}
use Rattle.std.specs.Result.{IfOk}
use Rattle.std.proofs.lemmas.List.{length-map}
use Rattle.hunk_base.proofs.TextLemmas.{numbered-all}
use Rattle.hunk_objects.specs.ProgramUnit.{ObjectUnit}
use Rattle.hunk_origins.specs.DefinedNames.{AreDefinedBy}
use Rattle.hunk_origins.specs.Names.{AreSorted, Entry, unit_entries}
use Rattle.hunk_tool.specs.ObjectFiles.{FileUnit}
use Rattle.hunk_origins.specs.Origins.{Origin, origins}
use Rattle.hunk_origins.proofs.MapLemmas.{no_place, unit-at}
use Rattle.hunk_origins.proofs.NamesLemmas.{numbered-more}
use Rattle.hunk_origins.proofs.names.NameList.of_object_files.Goals as goal

pub loop-index-preserved : goal.loop-index-preserved
loop-index-preserved g c =
    let files = c.args.files.now in
    let index = c.loop-index.index in
    let units = c.units-unit-items.result.now in
    let places = c.places-places.result.now in
    let unit = c.unit-item.result in
    let second : FileUnit → ObjectUnit = λ u. u.1 in
    let within : index < length files = omega (arith, c.loop-index-test.true, ap length c.units-unit-items.ensures, length-map files second) in
    let entries = unit_entries (origins files) in
    let one : FileUnit = (get_or places index no_place, unit) in
    let defined : AreDefinedBy (origins files) c.in_ok-defined.defined =
    subst (λ (all : List Origin). AreDefinedBy all c.in_ok-defined.defined) (c.deref.ensures.value ∙ c.in_ok-all.ensures) c.in_ok-defined.ensures in
    c.in_ok-add_unit.ensures (origins files) defined
    ∙ ap (λ (made : List Entry). made ++ entries (index, one)) c.loop-index.invariant
    ∙ sym (numbered-more entries files index one within (sym (unit-at files places units index unit c.places-places.ensures c.units-unit-items.ensures within c.unit-item.is)))

pub returns : goal.returns
returns g c =
    let files = c.args.files.now in
    let unit : FileUnit → ObjectUnit = λ u. u.1 in
    let ended : length files ≤ c.loop-index.index = omega (arith, c.loop-index-test.false, ap length c.units-unit-items.ensures, length-map files unit) in
    subst (λ (names : List Entry). IfOk c.sorted.result (AreSorted names))
    (c.loop-index.invariant ∙ ap (flat_map (unit_entries (origins files))) (numbered-all files c.loop-index.index ended))
    c.sorted.ensures
