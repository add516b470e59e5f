-- Why a file was not opened.
use Rattle.std.specs.Borrow.{Bor}
use Rattle.std.specs.Prelude.{◌≡◌, List, ℕ}
use Rattle.hunk_tool.specs.FileSystem.{MayBeMissing}
use Rattle.hunk_store.specs.Store.{Contents}
use Rattle.hunk_store.specs.declared.failure.Failure.{Failure}
use Rattle.hunk_store.specs.declared.failure.Failure.TheVariants.{Opening}

-- this file cannot be opened
abbrev pub IsOpening : Contents → (file : Bor (List ℕ)) → Failure → Type 0
IsOpening contents file (Opening name reason) = (name ≡ file) × MayBeMissing (contents file.now)
IsOpening contents file _ = ⊥
