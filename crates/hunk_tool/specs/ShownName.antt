-- The names of files, as they stand in lines.
use Rattle.std.specs.Prelude.{ℕ, ◌==◌, ◌&&◌, nat_le, not, Bool, if◌then◌else◌, List, drop}
use Rattle.std.specs.List.{list_all, list_any, zip}
use Rattle.hunk_base.specs.QuotedName.{quoted}

-- a printable byte of ASCII
abbrev pub is_printable : ℕ → Bool
is_printable byte = nat_le 32 byte && nat_le byte 126

-- a colon (58), and a space (32) after it
abbrev pub is_separator : ℕ × ℕ → Bool
is_separator (byte, next) = (byte == 58) && (next == 32)

-- a colon and a space stand somewhere in a name
abbrev pub has_separator : List ℕ → Bool
has_separator name = list_any is_separator (zip name (drop 1 name))

-- a name that can stand in a line as it is
abbrev pub is_clear : List ℕ → Bool
is_clear name = list_all is_printable name && not (has_separator name)

-- a name as it is, or between double quotes
abbrev pub shown_name : List ℕ → List ℕ
shown_name name = if is_clear name then name else quoted name
