-- What a printer has taken, keeps and saw.
use Rattle.std.specs.Prelude.{ℕ, List, Bool, Option}
use Rattle.std.specs.Io.Buffered.{writer_buffer, writer_contents}
use Rattle.hunk_store.specs.declared.printer.Printer.{Printer}

-- the bytes that went to it, if they are known
abbrev pub printer_contents : {W : Type 0} → (W → Option (List ℕ)) → Printer W → Option (List ℕ)
printer_contents contents printer = writer_contents contents printer.buffered

-- those that are in its buffer
abbrev pub printer_waiting : {W : Type 0} → Printer W → List ℕ
printer_waiting printer = writer_buffer printer.buffered

-- a write to it failed
abbrev pub has_failed : {W : Type 0} → Printer W → Bool
has_failed printer = printer.failed
