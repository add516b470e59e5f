-- What the decoder of its kind made of a file is its value, and its watcher was shown its longwords.
use Rattle.std.proofs.Common.{◌≡◌, ℕ, List, Vec, Option, subst, sym}
use Rattle.hunk_base.specs.Streams.{HasRead}
use Rattle.hunk_base.proofs.StreamsLemmas.{HasRead-weaker}
use Rattle.hunk_words.specs.declared.due.Due.{Due}
use Rattle.hunk_words.specs.declared.event.FileKind.{FileKind}
use Rattle.hunk_words.specs.declared.event.FileKind.TheVariants as kind_is
use Rattle.hunk_objects.specs.ProgramUnit.{IsObjectOf, ObjectUnit}
use Rattle.hunk_loadfile.specs.LoadFile.{IsLoadOf}
use Rattle.hunk_loadfile.specs.LoadHunk.{FileHunk}
use Rattle.hunk_files.specs.FileDecoder.{IsFileOf}
use Rattle.hunk_files.specs.FileValue.{IsOfKind, kind_of_bytes}
use Rattle.hunk_files.specs.HunkFile.{value_of}
use Rattle.hunk_files.specs.Watched.{IsWatchedOf}
use Rattle.hunk_files.specs.WatchedFile.{IsWatchedFile, watched_file}
use Rattle.hunk_files.specs.declared.file_decoder.File.{File}
use Rattle.hunk_files.specs.declared.file_decoder.File.TheVariants.{Load, Object}
use Rattle.hunk_files.specs.declared.watcher.Watched.{Watched}

is-watched : {A W : Type 0} (watches : FileKind → W → List (Due × ℕ) → Type 0) (kind : FileKind) (file : File (Watched (Vec ObjectUnit A) W) (Watched (List FileHunk) W)) (bytes : List ℕ)
    → IsFileOf (IsWatchedOf kind_is.Object (λ units bs. IsObjectOf units.items bs) watches) (IsWatchedOf kind_is.Load (λ hunks bs. IsLoadOf hunks bs) watches) kind file bytes
    → IsWatchedOf kind (λ of_kind. IsOfKind kind (value_of of_kind)) watches (watched_file file) bytes
is-watched watches kind_is.Object (Object watched) bytes is = record { value = is.value; watcher = is.watcher }
is-watched watches kind_is.Load (Load watched) bytes is = record { value = is.value; watcher = is.watcher }
is-watched watches kind_is.Object (Load watched) bytes is = absurd is
is-watched watches kind_is.Load (Object watched) bytes is = absurd is

pub HasRead-watched : {A W : Type 0} (watches : FileKind → W → List (Due × ℕ) → Type 0) (file : File (Watched (Vec ObjectUnit A) W) (Watched (List FileHunk) W)) (watched : Watched (File (Vec ObjectUnit A) (List FileHunk)) W) (left left_then : Option (List ℕ))
    → watched ≡ watched_file file
    → HasRead left left_then (λ bytes. IsFileOf (IsWatchedOf kind_is.Object (λ units bs. IsObjectOf units.items bs) watches) (IsWatchedOf kind_is.Load (λ hunks bs. IsLoadOf hunks bs) watches) (kind_of_bytes bytes) file bytes)
    → HasRead left left_then (IsWatchedFile watches watched)
HasRead-watched watches file watched left left_then same read =
    subst (λ w. HasRead left left_then (IsWatchedFile watches w)) (sym same)
    (HasRead-weaker left left_then _ (IsWatchedFile watches (watched_file file)) (λ bytes is.
    let of_kind = is-watched watches (kind_of_bytes bytes) file bytes is in
    record { value = of_kind.value; watcher = of_kind.watcher }) read)
