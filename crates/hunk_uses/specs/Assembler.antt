-- What an assembler is told of the object files that it links.
use Rattle.std.specs.Global.{Global}
use Rattle.std.specs.Prelude.{◌≡◌, ◌≢◌, ℕ, List, map, take, false, slice_get, Some, Vec}
use Rattle.hunk_words.specs.Decoder.{RefusesInput}
use Rattle.hunk_words.specs.declared.event.FileKind.TheVariants.{Object}
use Rattle.hunk_base.specs.declared.fault.Fault.{Fault}
use Rattle.hunk_base.specs.declared.fault.Refusal.TheVariants as refusal_is
use Rattle.hunk_objects.specs.ProgramUnit.{ObjectUnit}
use Rattle.hunk_link.specs.declared.refusal.LinkRefusal.TheVariants as link_refusal
use Rattle.hunk_tool.specs.Inputs.{AreObjects}
use Rattle.hunk_tool.specs.Link.{IsNotLinked as AreNotLinked}
use Rattle.hunk_tool.specs.declared.link_options.LinkOptions.{LinkOptions}
use Rattle.hunk_tool.specs.declared.tool_fault.ToolFault.{ToolFault}
use Rattle.hunk_tool.specs.declared.tool_fault.ToolFault.TheVariants.{Input, Link, OutOfMemory}

-- the bytes of each file
abbrev pub bytes_of_each : List (Vec ℕ Global) → List (List ℕ)
bytes_of_each files = map (λ file. file.items) files

-- symbols and debug blocks stay, relocations are longwords, and nothing is trimmed
abbrev pub plain : LinkOptions
plain = record { strip = false; short = false; trim = false }

-- The file with this number is the first that is not an object file, and this is its first offence.
pub record IsNoObject (files : List (List ℕ)) (number : ℕ) (fault : Fault) : Type 0 where
  pub bytes : List ℕ
  pub is : slice_get files number ≡ Some bytes
  pub refused : RefusesInput Object bytes (refusal_is.Fault fault)
  pub units : List ObjectUnit
  pub earlier : AreObjects (take number files) units

-- Why files were not linked: the first that is no object file, with its first offence; or the first reason why their
-- units do not link; or an allocation failed.
abbrev pub IsNotLinked : List (List ℕ) → ToolFault Global → Type 0
IsNotLinked files (Input file fault) = IsNoObject files file fault
IsNotLinked files (Link refusal) = AreNotLinked false false refusal files × (refusal ≢ link_refusal.OutOfMemory)
IsNotLinked files (OutOfMemory written) = written ≡ 0
IsNotLinked files _ = ⊥
