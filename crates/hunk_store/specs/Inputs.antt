-- The files that a request reads.
use Rattle.std.specs.Prelude.{◌≡◌, ◌≢◌, ℕ, List, [], ◌∷◌, ◌++◌, Bool, false, Option, Some, None, ⊤}
use Rattle.std.specs.List.{All}
use Rattle.hunk_base.specs.declared.streams.Source.{Ghosts as FileGhosts}
use Rattle.hunk_tool.specs.declared.file_system.FileSystem.{Ghosts}
use Rattle.hunk_tool.specs.FileSystem.{FileContent, IsContent, IsReaderOf, MayBeMissing}
use Rattle.hunk_tool.specs.FileSystem.FileContent.{unknown, missing, known}
use Rattle.hunk_tool.specs.Inputs.{HaveRead, Input}
use Rattle.hunk_tool.specs.declared.tool_fault.ToolFault.TheVariants.{OutOfMemory}
use Rattle.hunk_store.specs.Store.{Contents}
use Rattle.hunk_store.specs.declared.failure.Failure.{Failure}
use Rattle.hunk_store.specs.declared.failure.Failure.TheVariants.{Opening, Tool}
use Rattle.hunk_store.specs.declared.input.Input.{Input as FileInput}

-- ---- an input

-- the bytes of a file, if they are known
abbrev pub bytes_known : FileContent → Option (List ℕ)
bytes_known unknown = None
bytes_known missing = None
bytes_known (known bytes) = Some bytes

-- what is left of the file with a name: of a file that is not open, all of it
abbrev pub left_where : {F : Type 0} → (F → Option (List ℕ)) → FileContent → Option F → Option (List ℕ)
left_where left content (Some file) = left file
left_where left content None = bytes_known content

abbrev pub left_in : {S F : Type 0} {g : Ghosts S F} {h : FileGhosts F} → (S → Contents) → (F → Option (List ℕ)) → FileInput S F g h → Option (List ℕ)
left_in contents left input = left_where left (contents input.store.now input.name.now) input.file

-- whether the file was read to its end
abbrev pub ended_where : {F : Type 0} → (F → Bool) → Option F → Bool
ended_where ended (Some file) = ended file
ended_where ended None = false

abbrev pub ended_in : {S F : Type 0} {g : Ghosts S F} {h : FileGhosts F} → (F → Bool) → FileInput S F g h → Bool
ended_in ended input = ended_where ended input.file

-- a read of it failed
abbrev pub failed_in : {S F : Type 0} {g : Ghosts S F} {h : FileGhosts F} → FileInput S F g h → Bool
failed_in input = input.failed

-- ---- inputs of files

-- this is an input of the file with this name, of which nothing was read yet
pub record IsInput {S F : Type 0} {g : Ghosts S F} {h : FileGhosts F} (contents : S → Contents) (left : F → Option (List ℕ)) (store : S) (name : List ℕ) (input : FileInput S F g h) : Type 0 where
  pub of_store : input.store.now ≡ store
  pub of_name : input.name.now ≡ name
  pub from_start : IsContent (contents store name) (left_in contents left input)

abbrev pub AreInputs : {S F : Type 0} {g : Ghosts S F} {h : FileGhosts F} (contents : S → Contents) (left : F → Option (List ℕ)) (store : S) → (names : List (List ℕ)) → List (FileInput S F g h) → Type 0
AreInputs contents left store [] [] = ⊤
AreInputs contents left store (name ∷ names) (input ∷ inputs) = IsInput contents left store name input × AreInputs contents left store names inputs
AreInputs contents left store names inputs = ⊥

-- each of these is what is known of a reader of the file with the name in the same place
abbrev pub AreReadersOf : Contents → (names : List (List ℕ)) → List Input → Type 0
AreReadersOf contents [] [] = ⊤
AreReadersOf contents (name ∷ names) (input ∷ inputs) = IsReaderOf (contents name) input × AreReadersOf contents names inputs
AreReadersOf contents names inputs = ⊥

-- This holds of readers of the files, one for each.
pub record OfFiles (contents : Contents) (names : List (List ℕ)) (Holds : List Input → Type 0) : Type 0 where
  pub inputs : List Input
  pub are_readers : AreReadersOf contents names inputs
  pub holds : Holds inputs

-- readers of the files were read to their ends, and this holds of what was read
abbrev pub OfWholeFiles : Contents → (names : List (List ℕ)) → (Holds : List (List ℕ) → Type 0) → Type 0
OfWholeFiles contents names Holds = OfFiles contents names (λ inputs. HaveRead inputs Holds)

-- ---- files that are not opened

-- The file with this name, which is one of them, cannot be opened, and is the first that may not be there.
pub record IsUnopened (contents : Contents) (names : List (List ℕ)) (name : List ℕ) : Type 0 where
  pub before : List (List ℕ)
  pub after : List (List ℕ)
  pub among : names ≡ before ++ name ∷ after
  pub earlier : All (λ other. contents other ≢ missing) before
  pub lacks : MayBeMissing (contents name)

-- why the files were not opened: one of them cannot be opened, or out of memory
abbrev pub IsOpenFailure : Contents → (names : List (List ℕ)) → Failure → Type 0
IsOpenFailure contents names (Opening name reason) = IsUnopened contents names name.now
IsOpenFailure contents names (Tool fault) = fault ≡ OutOfMemory 0
IsOpenFailure contents names _ = ⊥
