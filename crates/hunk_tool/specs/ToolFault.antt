-- What the faults of the parts of an engine are as its own, and the exit status of each.
use Rattle.std.specs.Prelude.{ℕ}
use Rattle.hunk_base.specs.declared.fault.ReadFault.{ReadFault}
use Rattle.hunk_base.specs.declared.fault.ReadFault.TheVariants as read_fault
use Rattle.hunk_base.specs.declared.fault.Refusal.TheVariants as refusal
use Rattle.hunk_base.specs.declared.fault.WriteFault.{WriteFault}
use Rattle.hunk_base.specs.declared.fault.WriteFault.TheVariants as write_fault
use Rattle.hunk_link.specs.declared.refusal.LinkRefusal.{LinkRefusal}
use Rattle.hunk_link.specs.declared.refusal.LinkRefusal.TheVariants as link_refusal
use Rattle.hunk_loader.specs.declared.image_reader.ImageFault.{ImageFault}
use Rattle.hunk_loader.specs.declared.image_reader.ImageFault.TheVariants as image_fault
use Rattle.hunk_loader.specs.declared.loading.LoadRefusal.TheVariants as load_refusal
use Rattle.hunk_tool.specs.declared.tool_fault.ToolFault.{ToolFault}
use Rattle.hunk_tool.specs.declared.tool_fault.ToolFault.TheVariants.{Input, InputDevice, Link, Place, Output, OutOfMemory}

-- A fault of the only input, which has the number 0, before anything is written.
abbrev pub tool_fault_of_image : {A : Type 0} → ImageFault → ToolFault A
tool_fault_of_image (image_fault.Refused (load_refusal.File fault)) = Input 0 fault
tool_fault_of_image (image_fault.Refused (load_refusal.Place fault)) = Place fault
tool_fault_of_image (image_fault.Refused load_refusal.OutOfMemory) = OutOfMemory 0
tool_fault_of_image image_fault.Device = InputDevice 0

-- A fault of reading the input with this number, before anything is written.
abbrev pub tool_fault_of_read : {A : Type 0} → ℕ → ReadFault → ToolFault A
tool_fault_of_read file (read_fault.Refused (refusal.Fault fault)) = Input file fault
tool_fault_of_read file (read_fault.Refused refusal.OutOfMemory) = OutOfMemory 0
tool_fault_of_read file read_fault.Device = InputDevice file

abbrev pub tool_fault_of_write : {A : Type 0} → WriteFault → ToolFault A
tool_fault_of_write (write_fault.Device written) = Output written
tool_fault_of_write (write_fault.OutOfMemory written) = OutOfMemory written

-- Units do not link; or memory ran out, and nothing is written yet.
abbrev pub tool_fault_of_link : {A : Type 0} → LinkRefusal A → ToolFault A
tool_fault_of_link link_refusal.OutOfMemory = OutOfMemory 0
tool_fault_of_link refusal = Link refusal

-- 1 where what was read is refused, 3 where a device failed, 4 where an allocation failed
abbrev pub status : {A : Type 0} → ToolFault A → ℕ
status (Input file fault) = 1
status (InputDevice file) = 3
status (Link refusal) = 1
status (Place fault) = 1
status (Output written) = 3
status (OutOfMemory written) = 4
