-- What is due at a place of a file, as it is told to a person.
use Rattle.std.specs.Prelude.{◌≡◌, ℕ, List, [], ◌∷◌}
use Rattle.hunk_words.specs.Kinds.{Kind, width}
use Rattle.hunk_words.specs.Kinds.Kind.{object_start, load_start, unit_type, hunk_type, content_type, block_type, past_end, unit_length, name_length, word, value, content_size, reloc_count, hunk_number, offset, debug_length, symbol_entry, ext_entry, ref_count, ref_offset, resident, table_size, first_hunk, last_hunk, header_size, short_count, short_hunk, short_offset, short_pad}
use Rattle.hunk_words.specs.Files.{IsFile, IsValidPrefix}
use Rattle.hunk_words.specs.FirstOffence.{IsDue}
use Rattle.hunk_words.specs.Machine.{due}
use Rattle.hunk_words.specs.Reading.{start_of, word_next}
use Rattle.hunk_words.specs.declared.due.Due.{Due}
use Rattle.hunk_words.specs.declared.due.Due.TheVariants as due_is
use Rattle.hunk_words.specs.declared.event.FileKind.{FileKind}
use Rattle.hunk_words.specs.declared.event.FileKind.TheVariants.{Load}

-- a kind without its counts and limits
abbrev pub told : Kind → Due
told object_start = due_is.ObjectStart
told load_start = due_is.LoadStart
told unit_type = due_is.UnitType
told (hunk_type last size) = due_is.HunkType
told (content_type w) = due_is.ContentType
told (block_type w limit) = due_is.BlockType
told past_end = due_is.PastEnd
told unit_length = due_is.UnitLength
told name_length = due_is.NameLength
told word = due_is.Word
told value = due_is.Value
told (content_size w c bits) = due_is.ContentSize
told (reloc_count w limit) = due_is.RelocCount
told (hunk_number w limit more) = due_is.HunkNumber
told (offset limit target) = due_is.Offset
told debug_length = due_is.DebugLength
told (ext_entry limit) = due_is.ExtEntry
told (ref_count limit) = due_is.RefCount
told (ref_offset limit) = due_is.RefOffset
told symbol_entry = due_is.SymbolEntry
told resident = due_is.Resident
told table_size = due_is.TableSize
told first_hunk = due_is.FirstHunk
told (last_hunk last) = due_is.LastHunk
told (header_size last room left sizes) = due_is.HeaderSize
told (short_count h last limit) = due_is.ShortCount
told (short_hunk h last limit more) = due_is.ShortHunk
told (short_offset h limit target) = due_is.ShortOffset
told short_pad = due_is.ShortPad

-- This is due after a valid prefix: it is told of the kind that every completion has there, or the
-- prefix is a whole load file. Where halves are due, it is the upper one. No machine occurs in it.
pub data Dues (kind : FileKind) (front : List ℕ) (d : Due) : Type 0 where
  of_kind : {k : Kind} {seen : List ℕ} → IsDue kind front k seen → d ≡ told k → Dues kind front d
  past_load_file : kind ≡ Load → IsFile kind front → d ≡ due_is.PastEnd → Dues kind front d

-- each longword with what was due there, as the machine reads them
abbrev pub dues_from : List Kind → List ℕ → List (Due × ℕ)
dues_from stack [] = []
dues_from stack (w ∷ ws) = (told (due stack), w) ∷ dues_from (word_next (width (due stack)) stack w) ws

abbrev pub dues_read : FileKind → List ℕ → List (Due × ℕ)
dues_read kind ws = dues_from (start_of kind ∷ []) ws

-- What is due after a valid prefix is one.
abbrev pub DueIsOne : Type 0
DueIsOne = (kind : FileKind) (front : List ℕ) (d e : Due) → IsValidPrefix kind front → Dues kind front d → Dues kind front e → d ≡ e
