-- JSON texts in which further characters are escaped, although JSON lets them stand for themselves.
use Rattle.std.specs.Prelude.{ℕ, ◌==◌, ◌||◌, Bool, false, if◌then◌else◌, List, ◌++◌, codes}
use Rattle.std.specs.Char.{encode_utf8}
use Rattle.std.specs.Int.{bytes_high_first, is_in_range}
use Rattle.std.specs.List.{flat_map}
use Rattle.std.specs.Str.{chars}
use Rattle.hex.specs.Hex.{encode_lower}
use Rattle.hunk_json.specs.declared.form.JsonForm.{JsonForm}
use Rattle.hunk_json.specs.declared.form.JsonForm.TheVariants.{Plain, WithContent, InPage}

-- a control character that JSON lets stand for itself; a terminal obeys it
abbrev pub is_late_control : ℕ → Bool
is_late_control c = is_in_range 0x7F 0x9F c

-- a character that turns the direction of the text around it
abbrev pub turns_text : ℕ → Bool
turns_text c = c == 0x61C || is_in_range 0x200E 0x200F c || is_in_range 0x202A 0x202E c || is_in_range 0x2066 0x2069 c

-- the less-than sign, which begins a tag in a page
abbrev pub begins_tag : JsonForm → ℕ → Bool
begins_tag InPage c = c == 0x3C
begins_tag Plain c = false
begins_tag WithContent c = false

abbrev pub is_escaped : JsonForm → ℕ → Bool
is_escaped form c = is_late_control c || turns_text c || begins_tag form c

-- a backslash, a `u` and four hexadecimal digits
abbrev pub unicode_escape : ℕ → List ℕ
unicode_escape c = codes "\\u" ++ encode_lower (bytes_high_first 2 c)

-- a character as its escape, or as itself
abbrev pub character_text : JsonForm → ℕ → List ℕ
character_text form c = if is_escaped form c then unicode_escape c else encode_utf8 c

-- a text, character by character
abbrev pub with_escapes : JsonForm → List ℕ → List ℕ
with_escapes form text = flat_map (character_text form) (chars text)
