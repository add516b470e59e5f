-- The listing of a file that was read.
use Rattle.std.proofs.Common.{◌^◌, ◌<◌, ℕ, List, length, Option}
use Rattle.hunk_base.specs.Streams.{HasRead}
use Rattle.hunk_words.specs.declared.event.FileKind.{FileKind}
use Rattle.hunk_words.specs.declared.event.FileKind.TheVariants as kind_is
use Rattle.hunk_text.proofs.ListingSizeLoadLemmas.{load_listing-fits}
use Rattle.hunk_text.proofs.ListingSizeUnitsLemmas.{object_listing-fits}
use Rattle.hunk_files.specs.FileValue.{FileValue, IsOfItsKind, IsOfKind, kind_of_bytes}
use Rattle.hunk_files.specs.FileValue.FileValue.{load_file, object_file}
use Rattle.hunk_tool.specs.Show.{show_text}

fits : (kind : FileKind) (value : FileValue) (bytes : List ℕ) → IsOfKind kind value bytes → length (show_text value) < 2 ^ 64
fits kind_is.Object (object_file units) bytes is = object_listing-fits units bytes is
fits kind_is.Load (load_file hunks) bytes is = load_listing-fits hunks bytes is
fits kind_is.Object (load_file hunks) bytes is = absurd is
fits kind_is.Load (object_file units) bytes is = absurd is

-- it is shorter than 2^64 bytes
pub show_text-fits : (value : FileValue) (left left_then : Option (List ℕ)) → HasRead left left_then (IsOfItsKind value) → length (show_text value) < 2 ^ 64
show_text-fits value left left_then read = fits (kind_of_bytes read.bytes) value read.bytes read.holds
