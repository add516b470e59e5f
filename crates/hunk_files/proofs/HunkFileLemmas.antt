-- What the decoder of its kind made of a file is its value.
use Rattle.std.proofs.Common.{ℕ, List, Vec}
use Rattle.hunk_words.specs.declared.event.FileKind.{FileKind}
use Rattle.hunk_words.specs.declared.event.FileKind.TheVariants as kind_is
use Rattle.hunk_objects.specs.ProgramUnit.{IsObjectOf, ObjectUnit}
use Rattle.hunk_loadfile.specs.LoadFile.{IsLoadOf}
use Rattle.hunk_loadfile.specs.LoadHunk.{FileHunk}
use Rattle.hunk_files.specs.FileDecoder.{IsFileOf}
use Rattle.hunk_files.specs.FileValue.{IsOfKind}
use Rattle.hunk_files.specs.HunkFile.{value_of}
use Rattle.hunk_files.specs.declared.file_decoder.File.{File}
use Rattle.hunk_files.specs.declared.file_decoder.File.TheVariants.{Load, Object}

pub has_value : {A : Type 0} (kind : FileKind) (file : File (Vec ObjectUnit A) (List FileHunk)) (bytes : List ℕ)
    → IsFileOf (λ units bs. IsObjectOf units.items bs) (λ hunks bs. IsLoadOf hunks bs) kind file bytes → IsOfKind kind (value_of file) bytes
has_value kind_is.Object (Object units) bytes is = is
has_value kind_is.Load (Load hunks) bytes is = is
has_value kind_is.Object (Load hunks) bytes is = absurd is
has_value kind_is.Load (Object units) bytes is = absurd is
