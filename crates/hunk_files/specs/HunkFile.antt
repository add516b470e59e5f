-- The value of a file that was read, and what a decoder of one stands for.
use Rattle.std.specs.Prelude.{ℕ, List, Vec}
use Rattle.hunk_words.specs.Decoder.{StandsFor as DecoderStandsFor}
use Rattle.hunk_words.specs.declared.event.FileKind.TheVariants as kind_is
use Rattle.hunk_objects.specs.ObjectDecoder as object
use Rattle.hunk_objects.specs.ProgramUnit.{ObjectUnit}
use Rattle.hunk_loadfile.specs.LoadDecoder as load
use Rattle.hunk_loadfile.specs.LoadHunk.{FileHunk}
use Rattle.hunk_files.specs.FileDecoder.{StandsFor as KindsStandFor}
use Rattle.hunk_files.specs.FileValue.{FileValue}
use Rattle.hunk_files.specs.FileValue.FileValue.{object_file, load_file}
use Rattle.hunk_files.specs.declared.file_decoder.File.{File}
use Rattle.hunk_files.specs.declared.file_decoder.File.TheVariants.{Object, Load}
use Rattle.hunk_files.specs.declared.hunk_file.HunkFileDecoder.{HunkFileDecoder}

abbrev pub value_of : {A : Type 0} → File (Vec ObjectUnit A) (List FileHunk) → FileValue
value_of (Object units) = object_file units.items
value_of (Load hunks) = load_file hunks

-- It was fed these bytes.
abbrev pub StandsFor : {A : Type 0} → HunkFileDecoder A → List ℕ → Type 0
StandsFor decoder bytes = KindsStandFor kind_is.Object object.StandsFor kind_is.Load load.StandsFor decoder.decoder bytes
