-- The text that `show` writes of a file.
use Rattle.std.specs.Prelude.{List, ℕ}
use Rattle.hunk_text.specs.Listing.{load_listing, object_listing}
use Rattle.hunk_files.specs.FileValue.{FileValue}
use Rattle.hunk_files.specs.FileValue.FileValue.{object_file, load_file}

-- the listing of its kind
abbrev pub show_text : FileValue → List ℕ
show_text (object_file units) = object_listing units
show_text (load_file hunks) = load_listing hunks
