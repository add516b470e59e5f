-- The kind of a file by its first four bytes, and its value.
use Rattle.std.specs.Prelude.{ℕ, ◌==◌, if◌then◌else◌, List, [], ◌∷◌}
use Rattle.hunk_words.specs.Kinds.{low}
use Rattle.hunk_base.specs.Longwords.{longwords}
use Rattle.hunk_words.specs.declared.event.FileKind.{FileKind}
use Rattle.hunk_words.specs.declared.event.FileKind.TheVariants.{Object, Load}
use Rattle.hunk_objects.specs.ProgramUnit.{IsObjectOf, ObjectUnit}
use Rattle.hunk_loadfile.specs.LoadFile.{IsLoadOf}
use Rattle.hunk_loadfile.specs.LoadHunk.{FileHunk}

-- ---- the kind of a file

-- A load file begins with the type 1011 (HUNK_HEADER of doshunks.h); types have 30 bits. Everything
-- else is read as an object file.
abbrev pub kind_of_longwords : List ℕ → FileKind
kind_of_longwords [] = Object
kind_of_longwords (first ∷ more) = if low first == 1011 then Load else Object

-- by the first four bytes, if there are four
abbrev pub kind_of_bytes : List ℕ → FileKind
kind_of_bytes bytes = kind_of_longwords (longwords bytes)

-- ---- the value of a file

-- the units of an object file, or the hunks of a load file
pub data FileValue : Type 0 where
  object_file : List ObjectUnit → FileValue
  load_file : List FileHunk → FileValue

-- The bytes are a file of this kind, with this value.
abbrev pub IsOfKind : FileKind → FileValue → List ℕ → Type 0
IsOfKind Object (object_file units) bytes = IsObjectOf units bytes
IsOfKind Load (load_file hunks) bytes = IsLoadOf hunks bytes
IsOfKind kind value bytes = ⊥

-- The bytes are a file of the kind that its first four bytes tell.
abbrev pub IsOfItsKind : FileValue → List ℕ → Type 0
IsOfItsKind value bytes = IsOfKind (kind_of_bytes bytes) value bytes
