-- What is known of files by their names.
use Rattle.std.specs.Prelude.{◌≡◌, ℕ, List, IsTrue, Option, Some, ⊤}
use Rattle.std.specs.Io.KnownBytes.{IsAtEnd}
use Rattle.hunk_base.specs.Streams.{HasRead}
use Rattle.hunk_tool.specs.Inputs.{Input}

-- what is known of the file with a name: nothing; that there is none; or its bytes
pub data FileContent : Type 0 where
  unknown : FileContent
  missing : FileContent
  known : List ℕ → FileContent

-- what a reader of the file has left before the first read
abbrev pub IsContent : FileContent → (left : Option (List ℕ)) → Type 0
IsContent unknown left = ⊤
IsContent missing left = ⊥
IsContent (known bytes) left = left ≡ Some bytes

-- it may be that the file cannot be opened
abbrev pub MayBeMissing : FileContent → Type 0
MayBeMissing unknown = ⊤
MayBeMissing missing = ⊤
MayBeMissing (known bytes) = ⊥

-- this is what is known of a reader of the file, before its first read and after its last
pub record IsReaderOf (content : FileContent) (input : Input) : Type 0 where
  pub from_start : IsContent content input.left
  pub to_end : IsTrue input.ended → IsAtEnd input.left_then
  pub may_fail : IsTrue input.failed → content ≡ unknown

-- This holds of a reader of the file.
pub record OfFile (content : FileContent) (Holds : Input → Type 0) : Type 0 where
  pub input : Input
  pub is_reader : IsReaderOf content input
  pub holds : Holds input

-- a reader of the file was read to its end, and this holds of what was read
abbrev pub OfWholeFile : FileContent → (Holds : List ℕ → Type 0) → Type 0
OfWholeFile content Holds = OfFile content (λ input. HasRead input.left input.left_then Holds × IsTrue input.ended)
