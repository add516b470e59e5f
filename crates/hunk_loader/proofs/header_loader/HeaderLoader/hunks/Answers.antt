-- The hunks of a whole header are those of the file.
use Rattle.std.proofs.Common.{◌++◌, sym, ap, subst, ◌∙◌}
use Rattle.hunk_loadfile.specs.LoadFile.{IsLoadOf}
use Rattle.hunk_loader.specs.HeaderLoader.{hunks_told}
use Rattle.hunk_loader.proofs.HeaderHunksLemmas.{header-of-file}
use Rattle.hunk_loader.proofs.HeaderLoaderLemmas.{sound-whole}
use Rattle.hunk_loader.proofs.header_loader.HeaderLoader.hunks.Goals as goal

pub returns-in-Some-clause-file : goal.returns-in-Some-clause-file
returns-in-Some-clause-file g c = λ file more load.
    let bytes = ap (λ state. state.bytes) (sym c.self.view_is) in
    let header = sound-whole c.self.inside.header _ _ c.in-Some.hunks.items c.self.invariant (ap (λ hunks. hunks_told hunks) c.in-Some.is) in
    c.as_slice.ensures.value ∙ header-of-file _ more _ file header (subst (λ bs. IsLoadOf file (bs ++ more)) bytes load)
