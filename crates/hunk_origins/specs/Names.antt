-- The names in files, as lines: what stands for each, and where.
use Rattle.std.specs.Prelude.{ℕ, Bool, List, ◌++◌, Option, None, Some, codes, map}
use Rattle.std.specs.Fmt.{decimal}
use Rattle.std.specs.List.{enumerate_from, flat_map}
use Rattle.std.specs.List.Sorted.{IsPermutation, IsSortedBy, IsStableBy}
use Rattle.std.specs.Ordering.{is_lt, nat_cmp}
use Rattle.std.specs.Cmp.Lexicographic.{slice_cmp}
use Rattle.hunk_base.specs.Digits.{eight_digits}
use Rattle.hunk_base.specs.QuotedName.{quoted}
use Rattle.hunk_base.specs.Text.{line}
use Rattle.hunk_words.specs.declared.kinds.HunkKind.{HunkKind}
use Rattle.hunk_words.specs.declared.kinds.HunkKind.TheVariants.{Code, Data, Bss}
use Rattle.hunk_loadfile.specs.LoadHunk.{FileHunk}
use Rattle.hunk_objects.specs.declared.unit_hunk.Definition.{Definition}
use Rattle.hunk_objects.specs.declared.unit_hunk.Definition.TheVariants as definition
use Rattle.hunk_tool.specs.ObjectFiles.{FileUnit}
use Rattle.hunk_origins.specs.Origins.{Origin, origins, unit_origins}
use Rattle.hunk_origins.specs.Undefined.{Use, references_of, undefined, uses_of}
use Rattle.hunk_origins.specs.declared.named_files.NamedFiles.{NamedFiles}
use Rattle.hunk_origins.specs.declared.named_files.NamedFiles.TheVariants.{Load, Objects}
use Rattle.hunk_origins.specs.declared.names.NameRole.{NameRole}
use Rattle.hunk_origins.specs.declared.names.NameRole.TheVariants.{Absolute, Offset, Symbol, Undefined}

-- a name, what it is, and where: the number of its unit over all files, and of its hunk
pub record Entry : Type 0 where
  pub name : List ℕ
  pub role : NameRole
  pub unit : Option ℕ
  pub hunk : ℕ

-- ---- the entries of a hunk, in the unit and with the number that are given

abbrev pub symbol_entry : Option ℕ → ℕ → HunkKind → List ℕ × ℕ → Entry
symbol_entry unit hunk kind symbol = record { name = symbol.0; role = Symbol kind symbol.1; unit = unit; hunk = hunk }

-- a definition of an offset in its hunk, or of an absolute value
abbrev pub definition_role : HunkKind → Definition → NameRole
definition_role kind (definition.At offset) = Offset kind offset
definition_role kind (definition.Absolute value) = Absolute value

abbrev pub definition_entry : Option ℕ → ℕ → HunkKind → List ℕ × Definition → Entry
definition_entry unit hunk kind defined = record { name = defined.0; role = definition_role kind defined.1; unit = unit; hunk = hunk }

abbrev pub undefined_entry : Option ℕ → ℕ → List ℕ × Use → Entry
undefined_entry unit hunk used = record { name = used.0; role = Undefined; unit = unit; hunk = hunk }

-- the names that it refers to and none of all these hunks defines, each once
abbrev pub undefined_entries : (all : List Origin) → Option ℕ → Origin → List Entry
undefined_entries all unit origin = map (undefined_entry unit origin.number) (uses_of (undefined all (references_of origin)))

-- its symbols, its definitions, and the names that it refers to and none of all these hunks defines
abbrev pub hunk_entries : (all : List Origin) → Option ℕ → Origin → List Entry
hunk_entries all unit origin =
    map (symbol_entry unit origin.number origin.hunk.kind) origin.hunk.symbols
    ++ map (definition_entry unit origin.number origin.hunk.kind) origin.hunk.definitions
    ++ undefined_entries all unit origin

-- ---- the entries of files

-- of a unit with this number
abbrev pub unit_entries : (all : List Origin) → ℕ × FileUnit → List Entry
unit_entries all unit = flat_map (hunk_entries all (Some unit.0)) (unit_origins unit.1)

-- of object files, whose units are numbered from 0 over all of them
abbrev pub object_names : List FileUnit → List Entry
object_names units = flat_map (unit_entries (origins units)) (enumerate_from 0 units)

-- of a hunk of a load file, which has this number
abbrev pub load_entries : ℕ × FileHunk → List Entry
load_entries hunk = map (symbol_entry None hunk.0 hunk.1.kind) hunk.1.symbols

-- of a load file
abbrev pub load_names : List FileHunk → List Entry
load_names hunks = flat_map load_entries (enumerate_from 0 hunks)

-- of either
abbrev pub names_of : {A : Type 0} → NamedFiles A → List Entry
names_of (Load hunks) = load_names hunks
names_of (Objects units) = object_names units

-- ---- their order

-- the bytes of the one name stand before those of the other
abbrev pub comes_before : Entry → Entry → Bool
comes_before first second = is_lt (slice_cmp nat_cmp first.name second.name)

-- These are the same entries, sorted by their names; entries of one name keep their order.
pub record AreSorted (entries sorted : List Entry) : Type 0 where
  pub same : IsPermutation entries sorted
  pub rising : IsSortedBy comes_before sorted
  pub stable : IsStableBy comes_before entries sorted

-- ---- their lines

abbrev pub symbol_letter : HunkKind → List ℕ
symbol_letter Code = codes "t"
symbol_letter Data = codes "d"
symbol_letter Bss = codes "b"

abbrev pub offset_letter : HunkKind → List ℕ
offset_letter Code = codes "T"
offset_letter Data = codes "D"
offset_letter Bss = codes "B"

abbrev pub role_letter : NameRole → List ℕ
role_letter (Symbol kind value) = symbol_letter kind
role_letter (Offset kind offset) = offset_letter kind
role_letter (Absolute value) = codes "A"
role_letter Undefined = codes "U"

abbrev pub role_value : NameRole → Option ℕ
role_value (Symbol kind value) = Some value
role_value (Offset kind offset) = Some offset
role_value (Absolute value) = Some value
role_value Undefined = None

-- a value in eight digits, and as many spaces in place of none
abbrev pub value_text : Option ℕ → List ℕ
value_text (Some value) = eight_digits value
value_text None = codes "        "

abbrev pub unit_text : Option ℕ → List ℕ
unit_text (Some unit) = codes " unit " ++ decimal unit
unit_text None = codes ""

-- the value, the letter, the name and the place of an entry
abbrev pub entry_line : Entry → List ℕ
entry_line entry = line (value_text (role_value entry.role) ++ codes " " ++ role_letter entry.role ++ codes " " ++ quoted entry.name
    ++ unit_text entry.unit ++ codes " hunk " ++ decimal entry.hunk)

abbrev pub names_text : List Entry → List ℕ
names_text entries = flat_map entry_line entries
