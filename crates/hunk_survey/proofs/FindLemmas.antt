-- What is found of a file that was counted, and of one that was kept.
use Rattle.std.proofs.Common.{◌≡◌, ◌<◌, ◌^◌, ℕ, List, false, sum_by, Option, None, ap, ap₂, refl}
use Rattle.hunk_base.specs.Streams.{HasRead}
use Rattle.hunk_base.proofs.StreamsLemmas.{HasRead-weaker}
use Rattle.hunk_words.specs.declared.event.FileKind.{FileKind}
use Rattle.hunk_words.specs.declared.event.FileKind.TheVariants as kind_is
use Rattle.hunk_objects.specs.ProgramUnit.{ObjectUnit, hunk_count}
use Rattle.hunk_text.proofs.ListingSizeUnitsLemmas.{hunk_count-fits}
use Rattle.hunk_files.specs.Counters.{CountsLoad, CountsObject, header_hunks, hunks_of, units_of}
use Rattle.hunk_files.specs.FileDecoder.{IsFileOf}
use Rattle.hunk_files.specs.FileValue.{IsOfItsKind, IsOfKind, kind_of_bytes}
use Rattle.hunk_files.specs.FileValue.FileValue.{load_file, object_file}
use Rattle.hunk_files.specs.declared.counters.LoadCounter.{LoadCounter}
use Rattle.hunk_files.specs.declared.counters.ObjectCounter.{ObjectCounter}
use Rattle.hunk_files.specs.declared.file_decoder.File.TheVariants as file
use Rattle.hunk_survey.specs.Finding.{IsFoundIn}
use Rattle.hunk_survey.specs.declared.finding.Finding.TheVariants.{Load, Object}

-- ---- a file that was counted

object-counted : {A : Type 0} (kind : FileKind) (counter : ObjectCounter A) (bytes : List ℕ) → kind_of_bytes bytes ≡ kind
    → IsFileOf (CountsObject {A = A}) (CountsLoad {A = A}) kind (file.Object counter) bytes → IsFoundIn false (Object (units_of counter) (hunks_of counter)) bytes
object-counted kind_is.Object counter bytes is has = record {
  value = object_file has.units;
  is_file = rw is has.is_file;
  finds = ap₂ Object has.same_units has.same_hunks;
}
object-counted kind_is.Load counter bytes is has = absurd has

load-counted : {A : Type 0} (kind : FileKind) (counter : LoadCounter A) (bytes : List ℕ) → kind_of_bytes bytes ≡ kind
    → IsFileOf (CountsObject {A = A}) (CountsLoad {A = A}) kind (file.Load counter) bytes → IsFoundIn false (Load (header_hunks counter) None) bytes
load-counted kind_is.Object counter bytes is has = absurd has
load-counted kind_is.Load counter bytes is has = record {
  value = load_file has.hunks;
  is_file = rw is has.is_file;
  finds = ap (λ hunks. Load hunks None) has.same_hunks;
}

pub HasRead-counted_object : {A : Type 0} (counter : ObjectCounter A) (left left_then : Option (List ℕ))
    → HasRead left left_then (λ bytes. IsFileOf (CountsObject {A = A}) (CountsLoad {A = A}) (kind_of_bytes bytes) (file.Object counter) bytes)
    → HasRead left left_then (IsFoundIn false (Object (units_of counter) (hunks_of counter)))
HasRead-counted_object counter left left_then read =
    HasRead-weaker left left_then _ _ (λ bytes has. object-counted (kind_of_bytes bytes) counter bytes refl has) read

pub HasRead-counted_load : {A : Type 0} (counter : LoadCounter A) (left left_then : Option (List ℕ))
    → HasRead left left_then (λ bytes. IsFileOf (CountsObject {A = A}) (CountsLoad {A = A}) (kind_of_bytes bytes) (file.Load counter) bytes)
    → HasRead left left_then (IsFoundIn false (Load (header_hunks counter) None))
HasRead-counted_load counter left left_then read =
    HasRead-weaker left left_then _ _ (λ bytes has. load-counted (kind_of_bytes bytes) counter bytes refl has) read

-- ---- a file that was kept

-- the hunks of an object file are few enough to be counted
object-fits : (kind : FileKind) (units : List ObjectUnit) (bytes : List ℕ) → IsOfKind kind (object_file units) bytes → sum_by hunk_count units < 2 ^ 64
object-fits kind_is.Object units bytes is = hunk_count-fits units bytes is
object-fits kind_is.Load units bytes is = absurd is

pub units-fit : (units : List ObjectUnit) (left left_then : Option (List ℕ)) → HasRead left left_then (IsOfItsKind (object_file units)) → sum_by hunk_count units < 2 ^ 64
units-fit units left left_then read = object-fits (kind_of_bytes read.bytes) units read.bytes read.holds
