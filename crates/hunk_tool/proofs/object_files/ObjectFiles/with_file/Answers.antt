-- As many places as units are put behind the others.
use Rattle.std.proofs.Common.{◌≡◌, ◌∙◌, ◌++◌, List, ap, ap₂, length, arith}
use Rattle.std.specs.List.{zip}
use Rattle.std.proofs.lemmas.List.{length-append}
use Rattle.hunk_objects.specs.ProgramUnit.{ObjectUnit}
use Rattle.hunk_tool.specs.ObjectFiles.{FileUnit, placed, places_of}
use Rattle.hunk_tool.specs.declared.object_files.UnitPlace.{UnitPlace}
use Rattle.hunk_tool.proofs.ObjectFilesLemmas.{length-places_of, zip-more}
use Rattle.hunk_tool.proofs.object_files.ObjectFiles.with_file.Goals as goal

pub invariant_of-result : goal.invariant_of-result
invariant_of-result g c =
    let count = c.len.result in
    omega (
      arith,
      ap length c.in_ok-push_places.ensures,
      ap length c.in_ok-append.ensures.items,
      length-append c.self.inside.places.items (places_of c.args.file count),
      length-append c.self.inside.units.items c.args.units.items,
      length-places_of c.args.file count,
      c.len.ensures,
      c.args.units.ok.0,
      c.self.invariant,
    )

pub returns : goal.returns
returns g c =
    let places = c.self.inside.places.items in
    let units = c.self.inside.units.items in
    let more = c.args.units.items in
    let file = c.args.file in
    let count = c.len.result in
    let before = zip places units in
    let enough : count ≡ length more = omega (arith, c.len.ensures, c.args.units.ok.0) in
    ap₂ (λ (ps : List UnitPlace) (us : List ObjectUnit). zip ps us) c.in_ok-push_places.ensures c.in_ok-append.ensures.items
    ∙ zip-more places (places_of file count) units more c.self.invariant
    ∙ ap (λ n. before ++ zip (places_of file n) more) enough
    ∙ ap (λ (all : List FileUnit). all ++ placed file more) c.self.view_is
