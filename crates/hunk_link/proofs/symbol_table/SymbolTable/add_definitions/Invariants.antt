-- The table has the definitions that it had, and those of the hunk so far.
use Rattle.std.proofs.Common.{List, ◌++◌, take}
use Rattle.hunk_link.specs.Ranks.{items_of}
use Rattle.hunk_link.specs.SymbolTable.{Definition}
use Rattle.hunk_link.proofs.SymbolTableLemmas.{IsTableOf}
use Rattle.hunk_link.proofs.symbol_table.SymbolTable.add_definitions.Given as goal

abbrev pub invariant-loop-name : goal.invariant-loop-name
invariant-loop-name g l = (before : List Definition) → IsTableOf before l.fn.self → IsTableOf (before ++ items_of (λ _. take l.name-index l.name-items) l.ranked) l.self
