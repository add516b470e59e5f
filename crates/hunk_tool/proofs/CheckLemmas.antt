-- The line of a file that was counted, put together from the pieces that are written.
use Rattle.std.proofs.Common.{◌≡◌, ◌<◌, ◌^◌, ℕ, List, Option, length, ap, ap₂, refl, arith}
use Rattle.std.proofs.lemmas.List.{length-append}
use Rattle.hunk_base.proofs.DigitsLemmas.{length-decimal}
use Rattle.hunk_base.specs.Streams.{HasRead}
use Rattle.hunk_words.specs.declared.event.FileKind.{FileKind}
use Rattle.hunk_words.specs.declared.event.FileKind.TheVariants as kind_is
use Rattle.hunk_base.proofs.StreamsLemmas.{HasRead-weaker}
use Rattle.hunk_text.specs.Listing.{load_line, object_line}
use Rattle.hunk_tool.specs.Check.{check_text, line_of}
use Rattle.hunk_files.specs.Counters.{CountsLoad, CountsObject}
use Rattle.hunk_files.specs.FileDecoder.{IsFileOf}
use Rattle.hunk_files.specs.FileValue.{kind_of_bytes}
use Rattle.hunk_files.specs.FileValue.FileValue.{load_file, object_file}
use Rattle.hunk_files.specs.declared.counters.LoadCounter.{LoadCounter}
use Rattle.hunk_files.specs.declared.counters.ObjectCounter.{ObjectCounter}
use Rattle.hunk_files.specs.declared.file_decoder.File.{File}
use Rattle.hunk_files.specs.declared.file_decoder.File.TheVariants.{Load, Object}
use Rattle.hunk_tool.proofs.FileTextLemmas.{HasText}
use Rattle.hunk_tool.specs.FileText.{of_value}

-- the line of the counters is that of the file
line-counted : {A : Type 0} (kind : FileKind) (counted : File (ObjectCounter A) (LoadCounter A)) (bytes : List ℕ) → kind_of_bytes bytes ≡ kind → IsFileOf CountsObject CountsLoad kind counted bytes → HasText (of_value check_text) (line_of counted) bytes
line-counted kind_is.Object (Object counter) bytes is has = record {
  value = object_file has.units;
  is_file = rw is has.is_file;
  is_text = ap₂ object_line has.same_units has.same_hunks;
}
line-counted kind_is.Load (Load counter) bytes is has = record {
  value = load_file has.hunks;
  is_file = rw is has.is_file;
  is_text = ap load_line has.same_hunks;
}
line-counted kind_is.Object (Load counter) bytes is has = absurd has
line-counted kind_is.Load (Object counter) bytes is has = absurd has

pub HasText-counted : {A : Type 0} (counted : File (ObjectCounter A) (LoadCounter A)) (left left_then : Option (List ℕ))
    → HasRead left left_then (λ bytes. IsFileOf CountsObject CountsLoad (kind_of_bytes bytes) counted bytes) → HasRead left left_then (HasText (of_value check_text) (line_of counted))
HasText-counted counted left left_then read = HasRead-weaker left left_then _ _ (λ bytes has. line-counted (kind_of_bytes bytes) counted bytes refl has) read

-- ---- the lines are short

pub object_line-fits : (units hunks : ℕ) → units < 2 ^ 64 → hunks < 2 ^ 64 → length (object_line units hunks) < 2 ^ 64
object_line-fits units hunks few_units few_hunks = simp length-append (omega (arith, length-decimal units few_units, length-decimal hunks few_hunks))

pub load_line-fits : (hunks : ℕ) → hunks < 2 ^ 64 → length (load_line hunks) < 2 ^ 64
load_line-fits hunks few = simp length-append (omega (arith, length-decimal hunks few))
