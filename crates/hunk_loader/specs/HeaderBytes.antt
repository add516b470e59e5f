-- What the bytes of a header hold, and what is made of a piece.
use Rattle.std.specs.Prelude.{◌≡◌, ℕ, ◌-◌, ◌<◌, ◌≤◌, List, ◌++◌, length, min, take, None, Result, Ok, Err}
use Rattle.hunk_base.specs.Longwords.{longwords, unfinished}
use Rattle.hunk_words.specs.Decoder.{StandsFor as DecoderStandsFor, refusal_of as decoder_refusal}
use Rattle.hunk_words.specs.FirstOffence.{EndsEarly}
use Rattle.hunk_words.specs.declared.event.FileKind.TheVariants.{Load}
use Rattle.hunk_loader.specs.HeaderHunks.{header_length}
use Rattle.hunk_loader.specs.ImageBuilder.{StandsFor as BuilderStandsFor}
use Rattle.hunk_loader.specs.ImageLoader.{Fed}
use Rattle.hunk_loader.specs.declared.header_bytes.HeaderBytes.{HeaderBytes}
use Rattle.hunk_loader.specs.declared.loading.LoadRefusal.{LoadRefusal}
use Rattle.hunk_loader.specs.declared.loading.LoadRefusal.TheVariants.{File, Place, OutOfMemory}

-- These bytes are kept, and the decoder was fed them and refused none.
pub record Holds {A : Type 0} (header : HeaderBytes A) (bytes : List ℕ) : Type 0 where
  pub kept : header.bytes.items ≡ bytes
  pub stands : DecoderStandsFor Load BuilderStandsFor header.decoder bytes
  pub none : decoder_refusal header.decoder ≡ None

-- As many bytes of a piece as are missing at this end are taken, or it is refused.
abbrev pub TakesUntil : {A : Type 0} → ℕ → (bytes piece : List ℕ) → HeaderBytes A → Result ℕ LoadRefusal → Type 0
TakesUntil end bytes piece header (Ok taken) = (taken ≡ min (length piece) (end - length bytes)) × Holds header (bytes ++ take taken piece)
TakesUntil end bytes piece header (Err refusal) = Fed (bytes ++ piece) (Err refusal)

-- This many bytes of a piece are taken: all of them, or those up to the end of the header.
pub record StopsAtEnd (bytes piece : List ℕ) (taken : ℕ) : Type 0 where
  pub within : taken ≤ length piece
  pub stops : length (bytes ++ take taken piece) ≤ header_length (longwords (bytes ++ take taken piece))
  pub goes_on : length (bytes ++ take taken piece) < header_length (longwords (bytes ++ take taken piece)) → taken ≡ length piece

-- So many are taken, or the piece is refused.
abbrev pub TakesHeader : {A : Type 0} → (bytes piece : List ℕ) → HeaderBytes A → Result ℕ LoadRefusal → Type 0
TakesHeader bytes piece header (Ok taken) = StopsAtEnd bytes piece taken × Holds header (bytes ++ take taken piece)
TakesHeader bytes piece header (Err refusal) = Fed (bytes ++ piece) (Err refusal)

-- A file that ends after these bytes ends too early, for this reason.
abbrev pub EndsEarlyAt : List ℕ → LoadRefusal → Type 0
EndsEarlyAt bytes (File fault) = EndsEarly Load (longwords bytes) (length (unfinished bytes)) fault.place fault.reason
EndsEarlyAt bytes (Place fault) = ⊥
EndsEarlyAt bytes OutOfMemory = ⊥
