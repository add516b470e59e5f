-- Records of Motorola's S-record format: lines of text that hold bytes.
use Rattle.std.specs.Prelude.{ℕ, ◌+◌, ◌-◌, ◌%◌, List, [], ◌∷◌, ◌++◌, length, codes, sum}
use Rattle.std.specs.Fmt.{decimal}
use Rattle.std.specs.Int.{bytes_high_first}
use Rattle.hex.specs.Hex.{encode_upper}
use Rattle.hunk_base.specs.Text.{line}

-- the ones' complement of the least significant byte of the sum of these bytes
abbrev pub checksum : List ℕ → ℕ
checksum bytes = 255 - sum bytes % 256

-- the number of bytes that follow, the checksum among them, and then these bytes
abbrev pub counted : List ℕ → List ℕ
counted bytes = (length bytes + 1) ∷ bytes

-- the line of a record of this kind: two upper-case digits for the count, for each of the bytes, and for the checksum of all
-- of them
abbrev pub record_line : (kind bytes : List ℕ) → List ℕ
record_line kind bytes = line (kind ++ encode_upper (counted bytes ++ checksum (counted bytes) ∷ []))

-- a record that tells a text: an address of 16 bits, which is not used, and the text
abbrev pub text_record : List ℕ → List ℕ
text_record text = record_line (codes "S0") (0 ∷ 0 ∷ text)

-- the first record
abbrev pub header_record : List ℕ
header_record = text_record (codes "amihunk")

-- the record that tells how many symbols are left out
abbrev pub left_out_words : ℕ → List ℕ
left_out_words count = codes "symbols left out: " ++ decimal count

abbrev pub left_out_record : ℕ → List ℕ
left_out_record count = text_record (left_out_words count)

-- bytes at an address of 32 bits
abbrev pub data_record : ℕ → List ℕ → List ℕ
data_record address row = record_line (codes "S3") (bytes_high_first 4 address ++ row)

-- the last record: the address of 32 bits at which a program is to start, which is not known here
abbrev pub end_record : List ℕ
end_record = record_line (codes "S7") (bytes_high_first 4 0)
