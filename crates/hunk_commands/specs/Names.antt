-- What is known of files and the output after a list of their names, or why it was not printed.
use Rattle.std.specs.Prelude.{◌≡◌, ◌⊎◌, ℕ, List, IsTrue, Option}
use Rattle.std.specs.Io.KnownBytes.{Appends}
use Rattle.std.specs.declared.alloc.Global.{Global}
use Rattle.hunk_base.specs.Streams.{TookFront}
use Rattle.hunk_origins.specs.NamedFiles.{AreNamedFiles, AreRefused}
use Rattle.hunk_origins.specs.Names.{AreSorted, Entry, names_of, names_text}
use Rattle.hunk_origins.specs.declared.named_files.NamedFiles.{NamedFiles}
use Rattle.hunk_tool.specs.declared.tool_fault.ToolFault.TheVariants.{OutOfMemory}
use Rattle.hunk_store.specs.Inputs.{IsUnopened, OfFiles, OfWholeFiles}
use Rattle.hunk_store.specs.Output.{IsFlushed, IsNothing, Printed}
use Rattle.hunk_store.specs.Store.{Contents}
use Rattle.hunk_store.specs.declared.failure.Failure.{Failure}
use Rattle.hunk_store.specs.declared.failure.Failure.TheVariants.{Opening, Printing, Tool}

-- The bytes are those of one load file, or of object files, and this is the list of their names.
pub record IsListOf (entries : List Entry) (files : List (List ℕ)) : Type 0 where
  pub named : NamedFiles Global
  pub are_read : AreNamedFiles named files
  pub sorted : AreSorted (names_of named) entries

-- The list of their names was written.
pub record AreListWritten (old new : Option (List ℕ)) (files : List (List ℕ)) : Type 0 where
  pub entries : List Entry
  pub is_list : IsListOf entries files
  pub written : Appends old new (names_text entries)

-- The output took exactly the first `written` bytes of it.
pub record IsListCutShort (old new : Option (List ℕ)) (files : List (List ℕ)) : Type 0 where
  pub entries : List Entry
  pub is_list : IsListOf entries files
  pub written : ℕ
  pub front : TookFront old new (names_text entries) written

-- the list of the names in the files was printed
abbrev pub AreListed : Contents → (files : List (List ℕ)) → Printed → Type 0
AreListed contents files printed = OfWholeFiles contents files (AreListWritten printed.old printed.new) × IsFlushed printed

-- why the files were not read: one of them cannot be opened, reading them failed, or out of memory
abbrev pub AreUnread : Contents → (files : List (List ℕ)) → Failure → Type 0
AreUnread contents files (Opening name reason) = IsUnopened contents files name.now
AreUnread contents files (Tool fault) = (fault ≡ OutOfMemory 0) ⊎ OfFiles contents files (λ inputs. AreRefused inputs fault)
AreUnread contents files _ = ⊥

-- why the names in the files were not printed: the files were not read, memory ran out, or the output did not take
-- or pass on all lines
abbrev pub IsNamesFailure : Contents → (files : List (List ℕ)) → Printed → Failure → Type 0
IsNamesFailure contents files printed failure =
    (AreUnread contents files failure × IsNothing printed)
    ⊎ ((failure ≡ Printing) × OfWholeFiles contents files (IsListCutShort printed.old printed.new) × IsTrue printed.failed)
