-- What was read is a file of the kind that its first four bytes tell, or it is rejected, and both
-- for one value or fault.
use Rattle.std.proofs.Common.{◌≡◌, ℕ, List, length, ap, ap₂, refl, inl, inr, Bool, true}
use Rattle.std.proofs.lemmas.List.{nil_from_length}
use Rattle.hunk_words.specs.Files.{IsFile}
use Rattle.hunk_words.specs.FirstOffence.{FirstOffence}
use Rattle.hunk_words.specs.FirstOffence.FirstOffence.{longword_offends, end_offends}
use Rattle.hunk_base.specs.Longwords.{IsWhole, longwords, unfinished}
use Rattle.hunk_words.specs.Values.{object_value}
use Rattle.hunk_words.specs.declared.event.FileKind.{FileKind}
use Rattle.hunk_words.specs.declared.event.FileKind.TheVariants.{Load, Object}
use Rattle.hunk_base.specs.declared.fault.Fault.{Fault}
use Rattle.hunk_base.specs.declared.fault.Reason.{Reason}
use Rattle.hunk_words.proofs.FirstOffenceLemmas.{file-no-offence, file-or-offence, first-one}
use Rattle.hunk_base.proofs.LongwordsByteLemmas.{longwords-long}
use Rattle.hunk_objects.specs.ProgramUnit.{object_units}
use Rattle.hunk_objects.proofs.PartialLemmas.{one-object}
use Rattle.hunk_loadfile.specs.LoadFile.{load_value}
use Rattle.hunk_loadfile.proofs.LoadFileLemmas.{one-load}
use Rattle.hunk_files.specs.FileDecoder.{IsRefused}
use Rattle.hunk_files.specs.FileValue.{FileValue, IsOfKind, kind_of_bytes}
use Rattle.hunk_files.specs.FileValue.FileValue.{load_file, object_file}
use Rattle.hunk_tool.specs.Laws.{FaultIsOne, FaultyIsNoFile, FileHasOneValue, FileOrFault}

-- ---- the value of a file

value-of : (kind : FileKind) (bytes : List ℕ) → IsFile kind (longwords bytes) → IsWhole bytes → (value : FileValue) × IsOfKind kind value bytes
value-of Object bytes file whole = (object_file (object_units (object_value file.tree)), record { whole = whole; is_object = record { tree = file.tree; is_file = file.is_file; value = refl } })
value-of Load bytes file whole = (load_file (load_value file.tree), record { whole = whole; is_load = record { tree = file.tree; is_file = file.is_file; value = refl } })

is-file : (kind : FileKind) (value : FileValue) (bytes : List ℕ) → IsOfKind kind value bytes → IsFile kind (longwords bytes) × IsWhole bytes
is-file Object (object_file units) bytes is = (record { tree = is.is_object.tree; is_file = is.is_object.is_file }, is.whole)
is-file Load (load_file hunks) bytes is = (record { tree = is.is_load.tree; is_file = is.is_load.is_file }, is.whole)
is-file Object (load_file hunks) bytes is = absurd is
is-file Load (object_file units) bytes is = absurd is

one-of : (kind : FileKind) (one other : FileValue) (bytes : List ℕ) → IsOfKind kind one bytes → IsOfKind kind other bytes → one ≡ other
one-of Object (object_file one) (object_file other) bytes first second = ap object_file (one-object one other (longwords bytes) first.is_object second.is_object)
one-of Load (load_file one) (load_file other) bytes first second = ap load_file (one-load one other (longwords bytes) first.is_load second.is_load)
one-of Object (load_file one) other bytes first second = absurd first
one-of Load (object_file one) other bytes first second = absurd first
one-of Object (object_file one) (load_file other) bytes first second = absurd second
one-of Load (load_file one) (object_file other) bytes first second = absurd second

pub file-has-one-value : FileHasOneValue
file-has-one-value one other bytes first second = one-of (kind_of_bytes bytes) one other bytes first second

-- ---- the first offence

first-offence : (fault : Fault) (ended : Bool) (bytes : List ℕ) → IsRefused fault ended bytes → FirstOffence (kind_of_bytes bytes) (longwords bytes) (length (unfinished bytes)) fault.place fault.reason
first-offence fault ended bytes (inl offends) = longword_offends offends
first-offence fault ended bytes (inr (at_end, early)) = end_offends early

pub fault-is-one : FaultIsOne
fault-is-one fault other ended also_ended bytes one two =
    let same = first-one (kind_of_bytes bytes) (longwords bytes) (length (unfinished bytes)) fault.place other.place fault.reason other.reason (first-offence fault ended bytes one) (first-offence other also_ended bytes two) in
    ap₂ (λ place reason. record { place = place; reason = reason }) same.0 same.1

pub faulty-is-no-file : FaultyIsNoFile
faulty-is-no-file fault ended value bytes (inl offends) is =
    file-no-offence (kind_of_bytes bytes) (longwords bytes) fault.place fault.reason (is-file (kind_of_bytes bytes) value bytes is).0 (longword_offends offends)
faulty-is-no-file fault ended value bytes (inr (at_end, early)) is =
    let file = is-file (kind_of_bytes bytes) value bytes is in
    early.not_whole (ap length file.1) file.0

refusal-of : (bytes : List ℕ) (place : ℕ) (r : Reason) → FirstOffence (kind_of_bytes bytes) (longwords bytes) (length (unfinished bytes)) place r → (fault : Fault) × IsRefused fault true bytes
refusal-of bytes place r (longword_offends offends) = (record { place = place; reason = r }, inl offends)
refusal-of bytes place r (end_offends early) = (record { place = place; reason = r }, inr (refl, early))

pub file-or-fault : FileOrFault
file-or-fault bytes typed = elim (file-or-offence (kind_of_bytes bytes) (longwords bytes) (length (unfinished bytes)) (longwords-long bytes typed)) [
  | inl (file, whole) ↦ inl (value-of (kind_of_bytes bytes) bytes file (nil_from_length (unfinished bytes) whole))
  | inr offence ↦ inr (refusal-of bytes offence.0 offence.1 offence.2)
]
