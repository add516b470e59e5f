-- The names that a hunk defines, as symbols of the hunk: what a debugger finds of a load file in which the names of
-- other hunks are gone.
use Rattle.std.specs.Prelude.{ℕ, Bool, List, [], ◌++◌, ◌&&◌, Option, None, Some, if◌then◌else◌, filter, map, nat_eq, not}
use Rattle.std.specs.Cmp.Lexicographic.{pointwise}
use Rattle.std.specs.List.{filter_map, list_any}
use Rattle.hunk_objects.specs.ProgramUnit.{ObjectUnit}
use Rattle.hunk_objects.specs.UnitHunk.{ObjectHunk}
use Rattle.hunk_objects.specs.declared.unit_hunk.Definition.{Definition}
use Rattle.hunk_objects.specs.declared.unit_hunk.Definition.TheVariants.{At, Absolute}

-- a name and a value
abbrev pub Symbol : Type 0
Symbol = List ℕ × ℕ

-- ---- definitions as symbols

-- a name that stands for an offset, with the offset
abbrev pub symbol_of : List ℕ → Definition → Option Symbol
symbol_of name (At offset) = Some (name, offset)
symbol_of name (Absolute number) = None

-- those of a hunk, in file order
abbrev pub global_symbols : List (List ℕ × Definition) → List Symbol
global_symbols definitions = filter_map (λ definition. symbol_of definition.0 definition.1) definitions

-- ---- symbols that are not there yet

-- whether two symbols have the same name and the same value
abbrev pub is_symbol : (symbol other : Symbol) → Bool
is_symbol symbol other = pointwise nat_eq symbol.0 other.0 && nat_eq symbol.1 other.1

-- whether a symbol is one of these
abbrev pub is_among : List Symbol → Symbol → Bool
is_among symbols symbol = list_any (is_symbol symbol) symbols

-- those of the others that are not among the symbols
abbrev pub others : (symbols more : List Symbol) → List Symbol
others symbols more = filter (λ symbol. not (is_among symbols symbol)) more

-- ---- hunks and units with them

-- the hunk without its symbols and debug blocks, if it is stripped
abbrev pub stripped_if : (strip : Bool) → ObjectHunk → ObjectHunk
stripped_if strip hunk =
    record hunk { symbols = (if strip then [] else hunk.symbols); debugs = (if strip then [] else hunk.debugs) }

-- After its symbols, the hunk has those of its definitions that are not among them.
abbrev pub with_definitions : ObjectHunk → ObjectHunk
with_definitions hunk = record hunk { symbols = hunk.symbols ++ others hunk.symbols (global_symbols hunk.definitions) }

abbrev pub hunk_with_globals : (strip : Bool) → ObjectHunk → ObjectHunk
hunk_with_globals strip hunk = with_definitions (stripped_if strip hunk)

abbrev pub unit_with_globals : (strip : Bool) → ObjectUnit → ObjectUnit
unit_with_globals strip unit = record unit { hunks = map (hunk_with_globals strip) unit.hunks }
