-- The table of the definitions of the hunks so far.
use Rattle.std.proofs.Common.{take}
use Rattle.hunk_link.specs.SymbolTable.{definitions_of}
use Rattle.hunk_link.proofs.SymbolTableLemmas.{IsTableOf}
use Rattle.hunk_link.proofs.symbol_table.symbol_table.Given as goal

abbrev pub invariant-loop-ranked : goal.invariant-loop-ranked
invariant-loop-ranked g l = IsTableOf (definitions_of (take l.ranked-index l.hunks)) l.table
