-- The file that was read is the only one.
use Rattle.std.proofs.Common.{◌∙◌, [], ◌∷◌, ◌++◌, List, ap, subst, sym}
use Rattle.hunk_base.proofs.StreamsLemmas.{HasRead-weaker}
use Rattle.hunk_files.specs.FileValue.{IsOfItsKind}
use Rattle.hunk_files.specs.HunkFile.{value_of}
use Rattle.hunk_tool.specs.ObjectFiles.{AreFileUnits, FileUnit, placed}
use Rattle.hunk_origins.proofs.NamedFilesLemmas.{AreFileUnits-of_its_kind, IsLoadOf-of_its_kind}
use Rattle.hunk_origins.proofs.named_files.read_one.Goals as goal

pub returns-in-Ok-Load-clause-read : goal.returns-in-Ok-Load-clause-read
returns-in-Ok-Load-clause-read g c =
    HasRead-weaker (g.R.Source.left c.args.input.now) (g.R.Source.left c.read_hunk_file.new.reader) (IsOfItsKind (value_of c.in-Ok-Load.field-0)) _
    (λ bytes is. IsLoadOf-of_its_kind c.in-Ok-Load.file bytes (subst (λ file. IsOfItsKind (value_of file) bytes) c.in-Ok-Load.field-0-is is)) c.in-Ok-Load.ensures.file

pub returns-in_ok-files-in-Ok-Object-clause-read : goal.returns-in_ok-files-in-Ok-Object-clause-read
returns-in_ok-files-in-Ok-Object-clause-read g c =
    let units = c.in-Ok-Object.units.items in
    HasRead-weaker (g.R.Source.left c.args.input.now) (g.R.Source.left c.read_hunk_file.new.reader) (IsOfItsKind (value_of c.in-Ok-Object.field-0)) _
    (λ bytes is. subst (λ (files : List FileUnit). AreFileUnits files (bytes ∷ []))
    (sym (c.in_ok-files-in-Ok-Object.ensures ∙ ap (λ (none : List FileUnit). none ++ placed 0 units) c.new.ensures)) (AreFileUnits-of_its_kind units bytes (subst (λ file. IsOfItsKind (value_of file) bytes) c.in-Ok-Object.field-0-is is)))
    c.in-Ok-Object.ensures.file
