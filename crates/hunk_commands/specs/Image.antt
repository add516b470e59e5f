-- What is known of addresses, object files and the output after `image`, or why it failed.
use Rattle.std.specs.Prelude.{◌≡◌, ◌⊎◌, ℕ, List, Bool, true, false, IsTrue}
use Rattle.hunk_objects.specs.ProgramUnit.{ObjectUnit}
use Rattle.hunk_tool.specs.Image.{IsUnitsFault, IsUnitsText, direct_text}
use Rattle.hunk_tool.specs.Symbols.{unit_symbols_text}
use Rattle.hunk_store.specs.declared.failure.Failure.{Failure}
use Rattle.hunk_store.specs.declared.failure.Failure.TheVariants.{Printing, Tool}
use Rattle.hunk_store.specs.Addresses.{AtBases, IsAddressesFailure, AddressSource}
use Rattle.hunk_store.specs.Inputs.{IsOpenFailure, OfFiles, OfWholeFiles}
use Rattle.hunk_store.specs.Output.{IsFlushed, IsNothing, Printed, taken_by}
use Rattle.hunk_store.specs.Store.{Contents}
use Rattle.hunk_commands.specs.declared.load.LoadText.{LoadText}
use Rattle.hunk_commands.specs.declared.load.LoadText.TheVariants.{Image, Symbols}

-- whether the units are linked without their symbols and debug blocks: they are not for a text of symbols
abbrev pub is_stripped : LoadText → Bool
is_stripped (Image form) = true
is_stripped (Symbols form) = false

-- the text of units at these bases
abbrev pub units_text : LoadText → List ObjectUnit → List ℕ → List ℕ
units_text (Image form) = direct_text form
units_text (Symbols form) = unit_symbols_text form

-- the files are object files that link and whose hunks are placed at the numbers of the addresses, and this
-- text of their units at these bases is what the output has taken
abbrev pub AreWrittenOf : LoadText → Contents → AddressSource → (files : List (List ℕ)) → Printed → Type 0
AreWrittenOf text contents source files printed = AtBases contents source
    (λ bases. OfWholeFiles contents files (IsUnitsText (is_stripped text) (units_text text) bases printed.old printed.new))

-- it was printed
abbrev pub AreImaged : LoadText → Contents → AddressSource → (files : List (List ℕ)) → Printed → Type 0
AreImaged text contents source files printed = AreWrittenOf text contents source files printed × IsFlushed printed

-- `image_to` returned this failure for the files
abbrev pub AreStopped : LoadText → Contents → AddressSource → (files : List (List ℕ)) → Printed → Failure → Type 0
AreStopped text contents source files printed (Tool fault) = AtBases contents source
    (λ bases. OfFiles contents files (λ inputs. IsUnitsFault (is_stripped text) (units_text text) bases inputs (taken_by printed) fault))
AreStopped text contents source files printed _ = ⊥

-- why the text of the files was not printed at addresses that are known: they cannot be opened, the run over
-- them failed, or the output did not pass on what it had taken
abbrev pub AreUnimaged : LoadText → Contents → AddressSource → (files : List (List ℕ)) → Printed → Failure → Type 0
AreUnimaged text contents source files printed failure =
    (AtBases contents source (λ bases. IsOpenFailure contents files failure) × IsNothing printed)
    ⊎ (AreStopped text contents source files printed failure
    ⊎ ((failure ≡ Printing) × AreWrittenOf text contents source files printed × IsTrue printed.failed))

-- why `image` failed: the addresses are known before the files are opened
abbrev pub IsImageFailure : LoadText → Contents → AddressSource → (files : List (List ℕ)) → Printed → Failure → Type 0
IsImageFailure text contents source files printed failure =
    (IsAddressesFailure contents source failure × IsNothing printed) ⊎ AreUnimaged text contents source files printed failure
