-- What lines hold: what the writer holds, and then the buffer.
use Rattle.std.specs.Io.Buffered.{writer_contents}
use Rattle.std.specs.Prelude.{ℕ, List, Option}
use Rattle.hunk_store.specs.declared.lines.Lines.{Lines}

abbrev pub line_contents : {W : Type 0} (contents : W → Option (List ℕ)) → Lines W → Option (List ℕ)
line_contents contents lines = writer_contents contents lines.buffered
