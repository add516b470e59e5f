-- What a link makes.
use Rattle.std.specs.Prelude.{◌≡◌, ℕ, List, [], Option, Some, None, true, false}
use Rattle.hunk_link.specs.Carried.{carried}
use Rattle.hunk_loadfile.specs.LoadHunk.{FileHunk}
use Rattle.hunk_tool.specs.Link.{IsLinked}
use Rattle.hunk_tool.specs.LinkOptions.{trimmed_if}
use Rattle.hunk_tool.specs.ObjectFiles.{AreFileUnits, FileUnit, units_of}
use Rattle.amihunk_c.specs.declared.linked.LinkedFile.{LinkedFile}
use Rattle.amihunk_c.specs.declared.linker.LinkerOptions.{LinkerOptions}

-- These units are kept, which are those of the files, and the load file that is written of them.
pub record AreKept (options : LinkerOptions) (files : List (List ℕ)) (kept : List FileUnit × List FileHunk) : Type 0 where
  pub units : AreFileUnits kept.0 files
  pub file : kept.1 ≡ trimmed_if options.link.trim (carried (units_of kept.0) options.link.strip)

-- what is kept, if that was asked for
abbrev pub IsKept : LinkerOptions → List (List ℕ) → Option (List FileUnit × List FileHunk) → Type 0
IsKept options files None = options.keep ≡ false
IsKept options files (Some kept) = (options.keep ≡ true) × AreKept options files kept

-- The bytes are a load file of these files, and what was asked for is kept.
pub record IsLinkedFile (options : LinkerOptions) (files : List (List ℕ)) (linked : LinkedFile) : Type 0 where
  pub bytes : IsLinked false options.link (Some []) (Some linked.bytes.items) files
  pub kept : IsKept options files linked.kept
