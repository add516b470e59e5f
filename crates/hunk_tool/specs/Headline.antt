-- Whenever object files link, the load file that is written, read back in any pieces and loaded at
-- any disjoint addresses that hold its hunks, gives exactly the memory that the units define
-- directly.
use Rattle.std.specs.Prelude.{◌≡◌, ℕ, List, ◌++◌, Bool, Some}
use Rattle.std.specs.List.{All}
use Rattle.hunk_objects.specs.ProgramUnit.{ObjectUnit}
use Rattle.hunk_link.specs.Ranks.{IsUnit}
use Rattle.hunk_loader.specs.Image.{memory_map}
use Rattle.hunk_loader.specs.Loading.{loaded}
use Rattle.hunk_tool.specs.Direct.{direct}
use Rattle.hunk_tool.specs.Image.{IsImaged}
use Rattle.hunk_tool.specs.Link.{IsLinked}
use Rattle.hunk_tool.specs.LinkedUnits.{carried_with}
use Rattle.hunk_tool.specs.Load.{IsReported}
use Rattle.hunk_image_text.specs.declared.image_form.ImageForm.{ImageForm}
use Rattle.hunk_tool.specs.declared.link_options.LinkOptions.{LinkOptions}

-- ---- as lists, and as maps from addresses to bytes

-- The load file that units make has, at any bases, the bytes that the units define directly.
abbrev pub LoadedIsDirect : Type 0
LoadedIsDirect =
    (units : List ObjectUnit) (globals strip : Bool) (bases : List ℕ) → All IsUnit units → loaded (carried_with globals strip units) bases ≡ direct units bases

-- So each address has the same byte, or none.
abbrev pub MemoryIsDirect : Type 0
MemoryIsDirect =
    (units : List ObjectUnit) (globals strip : Bool) (bases : List ℕ) (address : ℕ) → All IsUnit units
    → memory_map (loaded (carried_with globals strip units) bases) address ≡ memory_map (direct units bases) address

-- ---- over bytes

-- The bytes that linking these files appends, whatever the options are, are a load file whose image,
-- at the same bases and in the same form, is the one that is written of the memory which the files
-- define.
abbrev pub LinkedIsReported : Type 0
LinkedIsReported =
    (globals : Bool) (options : LinkOptions) (form : ImageForm) (files : List (List ℕ)) (bases file linked image told : List ℕ)
    → IsLinked globals options (Some file) (Some (file ++ linked)) files
    → IsImaged form bases (Some image) (Some (image ++ told)) files
    → IsReported form bases (Some image) (Some (image ++ told)) linked

-- No other image can be written of them in that form.
abbrev pub ReportsAgree : Type 0
ReportsAgree =
    (globals : Bool) (options : LinkOptions) (form : ImageForm) (files : List (List ℕ)) (bases file linked before told image other : List ℕ)
    → IsLinked globals options (Some file) (Some (file ++ linked)) files
    → IsReported form bases (Some before) (Some (before ++ told)) linked
    → IsImaged form bases (Some image) (Some (image ++ other)) files
    → told ≡ other
