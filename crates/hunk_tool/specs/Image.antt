-- What it means that the memory that object files define was written, or why it was not.
use Rattle.std.specs.Prelude.{ℕ, List, map, Bool, true, false, IsTrue, Option}
use Rattle.std.specs.Io.KnownBytes.{Appends, Keeps}
use Rattle.hunk_base.specs.Streams.{TookFront}
use Rattle.hunk_objects.specs.ProgramUnit.{ObjectUnit}
use Rattle.hunk_link.specs.Ranks.{hunks_of}
use Rattle.hunk_loader.specs.Places.{IsFirstRefusal, Placed}
use Rattle.hunk_loader.specs.declared.places.PlaceFault.{PlaceFault}
use Rattle.hunk_tool.specs.Direct.{direct}
use Rattle.hunk_tool.specs.Inputs.{HaveRead, Input}
use Rattle.hunk_tool.specs.Link.{DoLink, IsUnlinked, Taken}
use Rattle.hunk_image_text.specs.ImageText.{image_text}
use Rattle.hunk_image_text.specs.declared.image_form.ImageForm.{ImageForm}
use Rattle.hunk_tool.specs.declared.tool_fault.ToolFault.{ToolFault}
use Rattle.hunk_tool.specs.declared.tool_fault.ToolFault.TheVariants.{Place, Output}

-- the sizes of the units' hunks, in the order of the ranks
abbrev pub ranked_sizes : List ObjectUnit → List ℕ
ranked_sizes units = map (λ ranked. ranked.hunk.size) (hunks_of units)

-- The object files link, with their symbols and debug blocks unless these are stripped, and the text of
-- their units at these placed bases was written.
pub record IsUnitsText (strip : Bool) (text : List ObjectUnit → List ℕ → List ℕ) (bases : List ℕ) (old new : Option (List ℕ)) (files : List (List ℕ)) : Type 0 where
  pub units : List ObjectUnit
  pub link : DoLink false strip files units
  pub placed : Placed (ranked_sizes units) bases
  pub written : Appends old new (text units bases)

-- They link and are placed, and the writer took exactly the first `written` bytes of the text.
pub record AreCutShort (strip : Bool) (text : List ObjectUnit → List ℕ → List ℕ) (bases : List ℕ) (old new : Option (List ℕ)) (written : ℕ) (files : List (List ℕ)) : Type 0 where
  pub units : List ObjectUnit
  pub link : DoLink false strip files units
  pub placed : Placed (ranked_sizes units) bases
  pub front : TookFront old new (text units bases) written

-- They link, and their hunks cannot be placed at the bases, with this as the first fault.
pub record AreNotPlaced (strip : Bool) (bases : List ℕ) (fault : PlaceFault) (files : List (List ℕ)) : Type 0 where
  pub units : List ObjectUnit
  pub link : DoLink false strip files units
  pub first : IsFirstRefusal (ranked_sizes units) bases fault

-- Why the text was not written, or not in full. Nothing was written before all inputs were read, their units
-- linked and their hunks placed.
abbrev pub IsUnitsFault : {A : Type 0} → (strip : Bool) → (text : List ObjectUnit → List ℕ → List ℕ) → List ℕ → List Input → Taken → ToolFault A → Type 0
IsUnitsFault strip text bases inputs taken (Place fault) = HaveRead inputs (AreNotPlaced strip bases fault) × Keeps taken.old taken.new
IsUnitsFault strip text bases inputs taken (Output written) =
    HaveRead inputs (AreCutShort strip text bases taken.old taken.new written) × IsTrue taken.failed
IsUnitsFault strip text bases inputs taken fault = IsUnlinked false strip inputs fault × Keeps taken.old taken.new

-- ---- the memory

-- the memory that units define at these bases, in this form
abbrev pub direct_text : ImageForm → List ObjectUnit → List ℕ → List ℕ
direct_text form units bases = image_text form (direct units bases)

-- The object files link, and the memory that their units define at these placed bases was written in this form.
abbrev pub IsImaged : ImageForm → (bases : List ℕ) (old new : Option (List ℕ)) (files : List (List ℕ)) → Type 0
IsImaged form = IsUnitsText true (direct_text form)

-- Why it was not written in this form, or not in full.
abbrev pub IsImageFault : {A : Type 0} → ImageForm → List ℕ → List Input → Taken → ToolFault A → Type 0
IsImageFault form = IsUnitsFault true (direct_text form)
