-- What was read has its value, with what is odd about its longwords.
use Rattle.std.proofs.Common.{◌≡◌, ℕ, List, Vec, Option, subst, sym}
use Rattle.hunk_base.specs.Streams.{HasRead}
use Rattle.hunk_base.proofs.StreamsLemmas.{HasRead-weaker}
use Rattle.hunk_objects.specs.ProgramUnit.{ObjectUnit}
use Rattle.hunk_loadfile.specs.LoadHunk.{FileHunk}
use Rattle.hunk_files.specs.WatchedFile.{IsWatchedFile}
use Rattle.hunk_files.specs.declared.file_decoder.File.{File}
use Rattle.hunk_files.specs.declared.file_decoder.File.TheVariants.{Load, Object}
use Rattle.hunk_files.specs.declared.watcher.Watched.{Watched}
use Rattle.hunk_lint.specs.Linted.{IsLinted, linted_file}
use Rattle.hunk_lint.specs.Lints.{IsLintsOf}
use Rattle.hunk_lint.specs.declared.linted.Linted.{Linted}
use Rattle.hunk_lint.specs.declared.lints.Lints.{Lints}

linted : {A : Type 0} (file : File (Vec ObjectUnit A) (List FileHunk)) (lints : Lints A) (bytes : List ℕ)
    → IsWatchedFile (λ kind ls before. IsLintsOf kind ls before) (record { value = file; watcher = lints }) bytes → IsLinted (linted_file (record { value = file; watcher = lints })) bytes
linted (Object units) lints bytes is = (is.value, is.watcher.found)
linted (Load hunks) lints bytes is = (is.value, is.watcher.found)

is-linted : {A : Type 0} (watched : Watched (File (Vec ObjectUnit A) (List FileHunk)) (Lints A)) (bytes : List ℕ)
    → IsWatchedFile (λ kind lints before. IsLintsOf kind lints before) watched bytes → IsLinted (linted_file watched) bytes
is-linted watched bytes is = linted watched.value watched.watcher bytes is

pub HasRead-linted : {A : Type 0} (watched : Watched (File (Vec ObjectUnit A) (List FileHunk)) (Lints A)) (file : File (Linted (Vec ObjectUnit A) A) (Linted (List FileHunk) A)) (left left_then : Option (List ℕ))
    → file ≡ linted_file watched → HasRead left left_then (IsWatchedFile (λ kind lints before. IsLintsOf kind lints before) watched) → HasRead left left_then (IsLinted file)
HasRead-linted watched file left left_then same read =
    subst (λ f. HasRead left left_then (IsLinted f)) (sym same) (HasRead-weaker left left_then _ (IsLinted (linted_file watched)) (λ bytes is. is-linted watched bytes is) read)
