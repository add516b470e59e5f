-- The listing of a hunk file: its lines, as lists of bytes.
use Rattle.std.specs.Prelude.{ℕ, ◌/◌, List, [], ◌++◌, length, get_or, sum_by, codes}
use Rattle.std.specs.Fmt.{decimal}
use Rattle.std.specs.List.{enumerate_from, flat_map}
use Rattle.hunk_words.specs.declared.kinds.HunkKind.{HunkKind}
use Rattle.hunk_words.specs.declared.kinds.HunkKind.TheVariants.{Code, Data, Bss}
use Rattle.hunk_words.specs.declared.kinds.Memory.{Memory}
use Rattle.hunk_words.specs.declared.kinds.Memory.TheVariants.{Any, Chip, Fast}
use Rattle.hunk_objects.specs.ProgramUnit.{ObjectUnit, hunk_count}
use Rattle.hunk_objects.specs.UnitHunk.{ObjectHunk}
use Rattle.hunk_objects.specs.declared.unit_hunk.Adds.{Adds}
use Rattle.hunk_objects.specs.declared.unit_hunk.Adds.TheVariants.{Hunk, Reference}
use Rattle.hunk_objects.specs.declared.unit_hunk.Definition.{Definition}
use Rattle.hunk_objects.specs.declared.unit_hunk.Definition.TheVariants.{At, Absolute}
use Rattle.hunk_loadfile.specs.LoadHunk.{FileHunk}
use Rattle.hunk_base.specs.Digits.{eight_digits}
use Rattle.hunk_base.specs.Text.{line}
use Rattle.hunk_base.specs.QuotedName.{quoted}

-- ---- first lines

-- of an object file, with the number of hunks of all units
abbrev pub object_line : (units hunks : ℕ) → List ℕ
object_line units hunks = line (codes "object file: " ++ decimal units ++ codes " units, " ++ decimal hunks ++ codes " hunks")

-- of a load file
abbrev pub load_line : (hunks : ℕ) → List ℕ
load_line hunks = line (codes "load file: " ++ decimal hunks ++ codes " hunks")

-- ---- a hunk

abbrev pub kind_word : HunkKind → List ℕ
kind_word Code = codes "code"
kind_word Data = codes "data"
kind_word Bss = codes "bss"

abbrev pub memory_word : Memory → List ℕ
memory_word Any = codes "any"
memory_word Chip = codes "chip"
memory_word Fast = codes "fast"

-- how a line of a hunk begins: its number, its kind, its memory and its size
abbrev pub hunk_front : (number : ℕ) → HunkKind → Memory → (size : ℕ) → List ℕ
hunk_front number kind memory size =
    codes "hunk " ++ decimal number ++ codes " " ++ kind_word kind ++ codes " " ++ memory_word memory
    ++ codes " " ++ decimal size ++ codes " longwords"

-- ---- what stands in a hunk, a line each

-- a site that adds this text
abbrev pub site_line : (offset : ℕ) → List ℕ → List ℕ
site_line offset adds = line (codes "  " ++ eight_digits offset ++ codes " adds " ++ adds)

-- the number of a hunk
abbrev pub adds_hunk : ℕ → List ℕ
adds_hunk number = codes "hunk " ++ decimal number

-- a hunk, or the name of a reference, by its index among those of the same hunk
abbrev pub adds_text : (references : List (List ℕ)) → Adds → List ℕ
adds_text references (Hunk number) = adds_hunk number
adds_text references (Reference index) = quoted (get_or references index [])

abbrev pub definition_text : Definition → List ℕ
definition_text (At offset) = codes " at " ++ eight_digits offset
definition_text (Absolute number) = codes " as " ++ eight_digits number

-- a name and what it stands for
abbrev pub definition_line : List ℕ × Definition → List ℕ
definition_line definition = line (codes "  define " ++ quoted definition.0 ++ definition_text definition.1)

-- a name and a value
abbrev pub symbol_line : List ℕ × ℕ → List ℕ
symbol_line symbol = line (codes "  symbol " ++ quoted symbol.0 ++ codes " " ++ eight_digits symbol.1)

-- a debug block, of which only the number of longwords is told
abbrev pub debug_line : List ℕ → List ℕ
debug_line words = line (codes "  debug " ++ decimal (length words))

-- the symbols and the debug blocks of a hunk
abbrev pub debug_lines : List (List ℕ × ℕ) → List (List ℕ) → List ℕ
debug_lines symbols debugs = flat_map symbol_line symbols ++ flat_map debug_line debugs

-- ---- object files

abbrev pub unit_hunk_line : ℕ → ObjectHunk → List ℕ
unit_hunk_line number hunk = line (hunk_front number hunk.kind hunk.memory hunk.size ++ codes " " ++ quoted hunk.name)

-- the sites by rising offset
abbrev pub unit_site_lines : ObjectHunk → List ℕ
unit_site_lines hunk = flat_map (λ site. site_line site.0 (adds_text hunk.references site.1)) hunk.sites.entries

-- all lines of a hunk of a unit, with its number
abbrev pub unit_hunk_lines : ℕ × ObjectHunk → List ℕ
unit_hunk_lines hunk =
    unit_hunk_line hunk.0 hunk.1 ++ unit_site_lines hunk.1 ++ flat_map definition_line hunk.1.definitions
    ++ debug_lines hunk.1.symbols hunk.1.debugs

abbrev pub unit_line : ℕ → List ℕ → List ℕ
unit_line number name = line (codes "unit " ++ decimal number ++ codes " " ++ quoted name)

-- all lines of a unit, with its number; its hunks are numbered from 0
abbrev pub unit_lines : ℕ × ObjectUnit → List ℕ
unit_lines unit = unit_line unit.0 unit.1.name ++ flat_map unit_hunk_lines (enumerate_from 0 unit.1.hunks)

-- the listing of an object file with these units, numbered from 0
abbrev pub object_listing : List ObjectUnit → List ℕ
object_listing units = object_line (length units) (sum_by hunk_count units) ++ flat_map unit_lines (enumerate_from 0 units)

-- ---- load files

-- a line that ends with the number of longwords that the file has for the hunk
abbrev pub load_hunk_line : ℕ → FileHunk → List ℕ
load_hunk_line number hunk =
    line (hunk_front number hunk.kind hunk.memory hunk.size ++ codes ", " ++ decimal (length hunk.content / 4) ++ codes " stored")

-- the sites by rising offset
abbrev pub load_site_lines : FileHunk → List ℕ
load_site_lines hunk = flat_map (λ site. site_line site.0 (adds_hunk site.1)) hunk.sites.entries

-- all lines of a hunk of a load file, with its number
abbrev pub load_hunk_lines : ℕ × FileHunk → List ℕ
load_hunk_lines hunk = load_hunk_line hunk.0 hunk.1 ++ load_site_lines hunk.1 ++ debug_lines hunk.1.symbols hunk.1.debugs

-- the listing of a load file with these hunks, numbered from 0
abbrev pub load_listing : List FileHunk → List ℕ
load_listing hunks = load_line (length hunks) ++ flat_map load_hunk_lines (enumerate_from 0 hunks)
