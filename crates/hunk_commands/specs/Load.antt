-- What is known of addresses, a file and the output after `load`, or why it failed.
use Rattle.std.specs.Prelude.{◌≡◌, ◌⊎◌, ℕ, List, IsTrue}
use Rattle.hunk_loadfile.specs.LoadHunk.{FileHunk}
use Rattle.hunk_tool.specs.FileSystem.{MayBeMissing, OfFile, OfWholeFile}
use Rattle.hunk_tool.specs.Load.{IsFaultAt, IsWrittenAt, loaded_text}
use Rattle.hunk_tool.specs.Symbols.{symbols_text}
use Rattle.hunk_store.specs.declared.failure.Failure.{Failure}
use Rattle.hunk_store.specs.declared.failure.Failure.TheVariants.{Opening, Printing, Tool}
use Rattle.hunk_store.specs.Addresses.{AtBases, IsAddressesFailure, AddressSource}
use Rattle.hunk_store.specs.Output.{IsFlushed, IsNothing, Printed, ends_between}
use Rattle.hunk_store.specs.Store.{Contents}
use Rattle.hunk_commands.specs.declared.load.LoadText.{LoadText}
use Rattle.hunk_commands.specs.declared.load.LoadText.TheVariants.{Image, Symbols}

-- the text of the hunks of a load file at these bases
abbrev pub text_of : LoadText → List FileHunk → List ℕ → List ℕ
text_of (Image form) = loaded_text form
text_of (Symbols form) = symbols_text form

-- the numbers of the addresses are the bases at which the load file was placed, and this text of it at
-- these bases is what the output has taken
abbrev pub IsWrittenOf : LoadText → Contents → AddressSource → (file : List ℕ) → Printed → Type 0
IsWrittenOf text contents source file printed = AtBases contents source
    (λ bases. OfWholeFile (contents file) (IsWrittenAt (text_of text) bases printed.old printed.new))

-- the text was printed
abbrev pub IsLoaded : LoadText → Contents → AddressSource → (file : List ℕ) → Printed → Type 0
IsLoaded text contents source file printed = IsWrittenOf text contents source file printed × IsFlushed printed

-- why the text of the file was not printed at addresses that are known: it cannot be opened, the output did
-- not pass on what it had taken, or a run over it failed
abbrev pub IsUnloaded : LoadText → Contents → AddressSource → (file : List ℕ) → Printed → Failure → Type 0
IsUnloaded text contents source file printed (Opening name reason) =
    AtBases contents source (λ bases. (name.now ≡ file) × MayBeMissing (contents file)) × IsNothing printed
IsUnloaded text contents source file printed Printing = IsWrittenOf text contents source file printed × IsTrue printed.failed
IsUnloaded text contents source file printed (Tool fault) = AtBases contents source
    (λ bases. OfFile (contents file) (λ input. IsFaultAt (text_of text) bases (ends_between input printed) fault))
IsUnloaded text contents source file printed _ = ⊥

-- why `load` failed: the addresses are known before the file is opened
abbrev pub IsLoadFailure : LoadText → Contents → AddressSource → (file : List ℕ) → Printed → Failure → Type 0
IsLoadFailure text contents source file printed failure =
    (IsAddressesFailure contents source failure × IsNothing printed) ⊎ IsUnloaded text contents source file printed failure
