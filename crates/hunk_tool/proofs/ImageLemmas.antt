-- The texts of linked units, of which one is the memory that they define, and what a fault of writing one says.
use Rattle.std.proofs.Common.{◌≡◌, ℕ, List, Option, Bool, true, false, Result, Ok, Err, OnOk, ap, subst, ◌∙◌}
use Rattle.std.specs.Io.KnownBytes.{Appends}
use Rattle.std.specs.List.{All}
use Rattle.std.proofs.KnownBytes.{Keeps-refl}
use Rattle.hunk_base.specs.Name.{bytes_of}
use Rattle.hunk_base.specs.Streams.{IsDevice, TookFront, WriteStopped}
use Rattle.hunk_base.specs.declared.fault.WriteFault.{WriteFault}
use Rattle.hunk_base.specs.declared.fault.WriteFault.TheVariants as write_fault
use Rattle.hunk_objects.specs.ProgramUnit.{ObjectUnit}
use Rattle.hunk_loadfile.specs.LoadHunk.{FileHunk}
use Rattle.hunk_loadfile.specs.Rules.{IsLoadFile}
use Rattle.hunk_loadfile.specs.declared.load_form.LoadForm.TheVariants.{Plain}
use Rattle.hunk_loadfile.specs.WrittenForm.{IsShortEnough, written_form}
use Rattle.hunk_link.specs.Carried.{carried}
use Rattle.hunk_link.specs.Ranks.{IsUnit}
use Rattle.hunk_link.proofs.CarriedLawsLemmas.{sizes-carried}
use Rattle.hunk_loader.specs.ImageLoader.{LoadsAs}
use Rattle.hunk_loader.specs.Loading.{loaded}
use Rattle.hunk_loader.specs.Places.{IsFirstRefusal, Placed}
use Rattle.hunk_loader.specs.Sizes.{sizes_of}
use Rattle.hunk_loader.specs.declared.places.PlaceFault.{PlaceFault}
use Rattle.hunk_tool.specs.Image.{AreCutShort, AreNotPlaced, IsUnitsFault, IsUnitsText, direct_text, ranked_sizes}
use Rattle.hunk_tool.specs.Inputs.{HaveRead, Input}
use Rattle.hunk_tool.specs.Link.{IsUnlinked, LinkTo, Taken}
use Rattle.hunk_tool.specs.Symbols.{IsPlacedFault, IsPlacedText, symbols_text, unit_symbols_text}
use Rattle.hunk_tool.specs.declared.symbol_form.SymbolForm.{SymbolForm}
use Rattle.hunk_image_text.specs.ImageText.{image_text}
use Rattle.hunk_image_text.specs.declared.image_form.ImageForm.{ImageForm}
use Rattle.hunk_tool.specs.ToolFault.{tool_fault_of_write}
use Rattle.hunk_tool.specs.declared.tool_fault.ToolFault.{ToolFault}
use Rattle.hunk_tool.specs.declared.tool_fault.ToolFault.TheVariants as tool_fault
use Rattle.hunk_tool.proofs.HeadlineLemmas.{loaded-is-direct}
use Rattle.hunk_tool.proofs.InputsLemmas.{HaveRead-weaker}
use Rattle.hunk_tool.proofs.LinkLemmas.{written_bytes-are_load}

-- ---- the load file that units make

Placed-carried : (units : List ObjectUnit) (strip : Bool) (file : List FileHunk) (bases : List ℕ) → file ≡ carried units strip → Placed (sizes_of file) bases → Placed (ranked_sizes units) bases
Placed-carried units strip file bases is placed = subst (λ sizes. Placed sizes bases) (ap sizes_of is ∙ sizes-carried units strip) placed

FirstRefusal-carried : (units : List ObjectUnit) (strip : Bool) (file : List FileHunk) (bases : List ℕ) (fault : PlaceFault) → file ≡ carried units strip → IsFirstRefusal (sizes_of file) bases fault → IsFirstRefusal (ranked_sizes units) bases fault
FirstRefusal-carried units strip file bases fault is first = subst (λ sizes. IsFirstRefusal sizes bases fault) (ap sizes_of is ∙ sizes-carried units strip) first

-- the text of a load file is that of the units that make it
abbrev pub TellsUnits : (strip : Bool) (text : List ObjectUnit → List ℕ → List ℕ) (bases : List ℕ) (file : List FileHunk) (told : List ℕ) → Type 0
TellsUnits strip text bases file told = (units : List ObjectUnit) → All IsUnit units → file ≡ carried units strip → told ≡ text units bases

-- the image of a load file without symbols and debug blocks is the memory that its units define
pub image-tells : (form : ImageForm) (bases : List ℕ) (file : List FileHunk) (image : List (ℕ × List ℕ)) → image ≡ loaded file bases → TellsUnits true (direct_text form) bases file (image_text form image)
image-tells form bases file image made units typed is =
    ap (image_text form) (made ∙ ap (λ hunks. loaded hunks bases) is ∙ loaded-is-direct units false true bases typed)

pub LoadsAs-written : (file : List FileHunk) (bases : List ℕ) (image : List (ℕ × List ℕ)) → IsLoadFile file → IsShortEnough file → Placed (sizes_of file) bases → image ≡ loaded file bases
    → LoadsAs bases (bytes_of (written_form file)) image
LoadsAs-written file bases image valid short placed made = record { hunks = file; is_file = written_bytes-are_load Plain file valid (short Plain).0; placed = placed; image_is = made }

-- ---- what was written

pub HaveRead-written : (inputs : List Input) (strip : Bool) (text : List ObjectUnit → List ℕ → List ℕ) (bases : List ℕ) (file : List FileHunk) (told : List ℕ) (old new : Option (List ℕ)) → HaveRead inputs (LinkTo false strip file)
    → Placed (sizes_of file) bases → TellsUnits strip text bases file told → Appends old new told → HaveRead inputs (IsUnitsText strip text bases old new)
HaveRead-written inputs strip text bases file told old new read placed tells written =
    HaveRead-weaker inputs (LinkTo false strip file) (IsUnitsText strip text bases old new) (λ files to. record {
      units = to.units;
      link = to.link;
      placed = Placed-carried to.units strip file bases to.file_is placed;
      written = subst (Appends old new) (tells to.units to.link.typed to.file_is) written;
    }) read

-- ---- faults

-- If the inputs were not linked, nothing was written.
pub IsUnitsFault-unlinked : {A : Type 0} (strip : Bool) (text : List ObjectUnit → List ℕ → List ℕ) (bases : List ℕ) (inputs : List Input) (taken : Option (List ℕ)) (failed : Bool) (fault : ToolFault A)
    → IsUnlinked false strip inputs fault → IsUnitsFault strip text bases inputs (record { old = taken; new = taken; failed = failed }) fault
IsUnitsFault-unlinked strip text bases inputs taken failed (tool_fault.Input file fault) is = (is, Keeps-refl taken)
IsUnitsFault-unlinked strip text bases inputs taken failed (tool_fault.InputDevice file) is = (is, Keeps-refl taken)
IsUnitsFault-unlinked strip text bases inputs taken failed (tool_fault.Link refusal) is = (is, Keeps-refl taken)
IsUnitsFault-unlinked strip text bases inputs taken failed (tool_fault.Place fault) is = absurd is
IsUnitsFault-unlinked strip text bases inputs taken failed (tool_fault.Output written) is = absurd is
IsUnitsFault-unlinked strip text bases inputs taken failed (tool_fault.OutOfMemory written) is = (is, Keeps-refl taken)

-- Where their hunks cannot be placed.
pub HaveRead-not_placed : (inputs : List Input) (strip : Bool) (bases : List ℕ) (file : List FileHunk) (fault : PlaceFault) → HaveRead inputs (LinkTo false strip file)
    → IsFirstRefusal (sizes_of file) bases fault → HaveRead inputs (AreNotPlaced strip bases fault)
HaveRead-not_placed inputs strip bases file fault read first =
    HaveRead-weaker inputs (LinkTo false strip file) (AreNotPlaced strip bases fault)
    (λ files to. record { units = to.units; link = to.link; first = FirstRefusal-carried to.units strip file bases fault to.file_is first }) read

HaveRead-cut_short : (inputs : List Input) (strip : Bool) (text : List ObjectUnit → List ℕ → List ℕ) (bases : List ℕ) (file : List FileHunk) (told : List ℕ) (old new : Option (List ℕ)) (written : ℕ) → HaveRead inputs (LinkTo false strip file)
    → Placed (sizes_of file) bases → TellsUnits strip text bases file told → TookFront old new told written → HaveRead inputs (AreCutShort strip text bases old new written)
HaveRead-cut_short inputs strip text bases file told old new written read placed tells front =
    HaveRead-weaker inputs (LinkTo false strip file) (AreCutShort strip text bases old new written) (λ files to. record {
      units = to.units;
      link = to.link;
      placed = Placed-carried to.units strip file bases to.file_is placed;
      front = subst (λ t. TookFront old new t written) (tells to.units to.link.typed to.file_is) front;
    }) read

-- Where writing the text stopped.
pub IsUnitsFault-written : (A : Type 0) {W : Type 0} (taken : W → Option (List ℕ)) (failed : W → Bool) (old new : W) (strip : Bool) (text : List ObjectUnit → List ℕ → List ℕ) (bases : List ℕ) (inputs : List Input) (file : List FileHunk) (told : List ℕ) (fault : WriteFault)
    → HaveRead inputs (LinkTo false strip file) → Placed (sizes_of file) bases → TellsUnits strip text bases file told → IsDevice fault → WriteStopped taken failed old new told fault
    → IsUnitsFault strip text bases inputs (record { old = taken old; new = taken new; failed = failed new }) (tool_fault_of_write {A = A} fault)
IsUnitsFault-written A taken failed old new strip text bases inputs file told (write_fault.Device written) read placed tells device stopped =
    (HaveRead-cut_short inputs strip text bases file told (taken old) (taken new) written read placed tells stopped.0, stopped.1)
IsUnitsFault-written A taken failed old new strip text bases inputs file told (write_fault.OutOfMemory written) read placed tells device stopped = absurd device

-- ---- the symbols

symbols-tell : (form : SymbolForm) (bases : List ℕ) (file : List FileHunk) → TellsUnits false (unit_symbols_text form) bases file (symbols_text form file bases)
symbols-tell form bases file units typed is = ap (λ hunks. symbols_text form hunks bases) is

-- The symbols of the load file that units make were written, or why they were not.
pub IsUnitsText-placed : {A : Type 0} (inputs : List Input) (form : SymbolForm) (bases : List ℕ) (file : List FileHunk) (taken : Taken) (result : Result Unit A)
    → HaveRead inputs (LinkTo false false file) → OnOk result (IsPlacedText (symbols_text form) file bases taken) → OnOk result (HaveRead inputs (IsUnitsText false (unit_symbols_text form) bases taken.old taken.new))
IsUnitsText-placed inputs form bases file taken (Ok done) read (placed, written) =
    HaveRead-written inputs false (unit_symbols_text form) bases file (symbols_text form file bases) taken.old taken.new read placed (symbols-tell form bases file) written
IsUnitsText-placed inputs form bases file taken (Err fault) read is = is

pub IsUnitsFault-placed : (A : Type 0) (inputs : List Input) (form : SymbolForm) (bases : List ℕ) (file : List FileHunk) (taken : Taken) (fault : ToolFault A)
    → HaveRead inputs (LinkTo false false file) → IsPlacedFault (symbols_text form) file bases taken fault → IsUnitsFault false (unit_symbols_text form) bases inputs taken fault
IsUnitsFault-placed A inputs form bases file taken (tool_fault.Input at fault) read is = absurd is
IsUnitsFault-placed A inputs form bases file taken (tool_fault.InputDevice at) read is = absurd is
IsUnitsFault-placed A inputs form bases file taken (tool_fault.Link refusal) read is = absurd is
IsUnitsFault-placed A inputs form bases file taken (tool_fault.Place fault) read (first, keeps) = (HaveRead-not_placed inputs false bases file fault read first, keeps)
IsUnitsFault-placed A inputs form bases file taken (tool_fault.Output written) read (placed, front, failed) =
    (HaveRead-cut_short inputs false (unit_symbols_text form) bases file (symbols_text form file bases) taken.old taken.new written read placed (symbols-tell form bases file) front, failed)
IsUnitsFault-placed A inputs form bases file taken (tool_fault.OutOfMemory written) read is = is
