-- The texts of the symbols of a load file, with their addresses.
use Rattle.std.specs.Prelude.{◌≡◌, ℕ, zero, suc, ◌+◌, ◌%◌, ◌^◌, ◌&&◌, nat_le, not, Bool, false, if◌then◌else◌, List, [], ◌++◌, length, codes, slice_index, sum_by, IsTrue}
use Rattle.std.specs.Fmt.{decimal}
use Rattle.std.specs.Io.KnownBytes.{Appends, Keeps}
use Rattle.std.specs.Char.{is_ascii_graphic}
use Rattle.std.specs.List.{enumerate_from, filter, flat_map, list_all}
use Rattle.hunk_base.specs.Streams.{TookFront}
use Rattle.hunk_base.specs.Digits.{eight_digits}
use Rattle.hunk_base.specs.Text.{line}
use Rattle.hunk_base.specs.QuotedName.{quoted}
use Rattle.hunk_objects.specs.ProgramUnit.{ObjectUnit}
use Rattle.hunk_loadfile.specs.LoadHunk.{FileHunk}
use Rattle.hunk_link.specs.Carried.{carried}
use Rattle.hunk_loader.specs.Loading.{loaded}
use Rattle.hunk_loader.specs.Places.{IsFirstRefusal, Placed}
use Rattle.hunk_loader.specs.Sizes.{sizes_of}
use Rattle.hunk_image_text.specs.ImageText.{image_text}
use Rattle.hunk_image_text.specs.Record.{left_out_record}
use Rattle.hunk_image_text.specs.declared.image_form.ImageForm.TheVariants.{SRecords}
use Rattle.hunk_tool.specs.Link.{Taken}
use Rattle.hunk_tool.specs.declared.symbol_form.SymbolForm.{SymbolForm}
use Rattle.hunk_tool.specs.declared.symbol_form.SymbolForm.TheVariants.{Lines, Records}
use Rattle.hunk_tool.specs.declared.tool_fault.ToolFault.{ToolFault}
use Rattle.hunk_tool.specs.declared.tool_fault.ToolFault.TheVariants.{Place, Output, OutOfMemory}

-- ---- lines

-- where a symbol of this value stands, in the hunk at this base: addresses are taken modulo 2^32
abbrev pub symbol_address : (base value : ℕ) → ℕ
symbol_address base value = (base + value) % 2 ^ 32

-- the address of a symbol, the number of its hunk, and its name
abbrev pub address_line : (number base : ℕ) → List ℕ × ℕ → List ℕ
address_line number base symbol =
    line (eight_digits (symbol_address base symbol.1) ++ codes " hunk " ++ decimal number ++ codes " " ++ quoted symbol.0)

-- whether a line before S-records can hold this name: it has a byte, and none but visible characters of ASCII
abbrev pub is_held : List ℕ → Bool
is_held name = nat_le 1 (length name) && list_all is_ascii_graphic name

-- the name of a symbol and its address, if such a line can hold it
abbrev pub record_line : (base : ℕ) → List ℕ × ℕ → List ℕ
record_line base symbol =
    if is_held symbol.0 then line (codes "  " ++ symbol.0 ++ codes " $" ++ eight_digits (symbol_address base symbol.1)) else []

-- the line of a symbol of the hunk with this number, which is at this base
abbrev pub symbol_line : SymbolForm → (number base : ℕ) → List ℕ × ℕ → List ℕ
symbol_line Lines number base symbol = address_line number base symbol
symbol_line Records number base symbol = record_line base symbol

-- those of all symbols of a hunk, which has this number
abbrev pub hunk_symbol_lines : SymbolForm → (bases : List ℕ) → ℕ × FileHunk → List ℕ
hunk_symbol_lines form bases hunk = flat_map (symbol_line form hunk.0 (slice_index bases hunk.0)) hunk.1.symbols

-- those of all hunks, numbered from 0, at these bases
abbrev pub symbol_lines : SymbolForm → List FileHunk → (bases : List ℕ) → List ℕ
symbol_lines form hunks bases = flat_map (hunk_symbol_lines form bases) (enumerate_from 0 hunks)

-- ---- what is left out

-- how many symbols of a hunk have names that the lines cannot hold
abbrev pub unheld_in : FileHunk → ℕ
unheld_in hunk = length (filter (λ symbol. not (is_held symbol.0)) hunk.symbols)

-- those of all hunks
abbrev pub number_left_out : List FileHunk → ℕ
number_left_out hunks = sum_by unheld_in hunks

-- a record that tells how many, if there are any
abbrev pub left_out_text : ℕ → List ℕ
left_out_text zero = []
left_out_text (suc others) = left_out_record (suc others)

-- ---- texts

-- the lines of the symbols, how many are left out, and the image, as S-records
abbrev pub record_text : List FileHunk → (bases : List ℕ) → (image : List (ℕ × List ℕ)) → List ℕ
record_text hunks bases image =
    line (codes "$$ amihunk") ++ (symbol_lines Records hunks bases ++ (line (codes "$$ ")
    ++ (left_out_text (number_left_out hunks) ++ image_text SRecords image)))

-- the text of the symbols of these hunks, at these bases
abbrev pub symbols_text : SymbolForm → List FileHunk → (bases : List ℕ) → List ℕ
symbols_text Lines hunks bases = symbol_lines Lines hunks bases
symbols_text Records hunks bases = record_text hunks bases (loaded hunks bases)

-- that of the load file that these units make with their symbols and debug blocks
abbrev pub unit_symbols_text : SymbolForm → List ObjectUnit → (bases : List ℕ) → List ℕ
unit_symbols_text form units bases = symbols_text form (carried units false) bases

-- ---- placed hunks

-- The hunks are placed at these bases, and the text of them was written.
abbrev pub IsPlacedText : (text : List FileHunk → List ℕ → List ℕ) → List FileHunk → (bases : List ℕ) → Taken → Type 0
IsPlacedText text hunks bases taken = Placed (sizes_of hunks) bases × Appends taken.old taken.new (text hunks bases)

-- Why the text of hunks at these bases was not written, or not in full. Nothing was written before they
-- were placed.
abbrev pub IsPlacedFault : {A : Type 0} → (text : List FileHunk → List ℕ → List ℕ) → List FileHunk → (bases : List ℕ) → Taken → ToolFault A → Type 0
IsPlacedFault text hunks bases taken (Place fault) = IsFirstRefusal (sizes_of hunks) bases fault × Keeps taken.old taken.new
IsPlacedFault text hunks bases taken (Output written) =
    Placed (sizes_of hunks) bases × TookFront taken.old taken.new (text hunks bases) written × IsTrue taken.failed
IsPlacedFault text hunks bases taken (OutOfMemory written) = (written ≡ 0) × Keeps taken.old taken.new
IsPlacedFault text hunks bases taken _ = ⊥
