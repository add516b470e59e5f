-- Which bytes a decoder of values stands for, and when they are the file that its builder was told.
use Rattle.std.specs.Prelude.{List, ℕ}
use Rattle.hunk_base.specs.Longwords.{longwords, IsWhole}
use Rattle.hunk_words.specs.Decoder.{StandsFor}
use Rattle.hunk_words.specs.DecoderCore.{TellsFile}
use Rattle.hunk_words.specs.declared.decoder.Decoder.{Decoder}
use Rattle.hunk_words.specs.declared.event.Event.{Event}
use Rattle.hunk_words.specs.declared.event.FileKind.{FileKind}

-- it was fed some bytes, possibly none
abbrev pub WasFed : {T : Type 0} → FileKind → (T → List Event → Type 0) → Decoder T → Type 0
WasFed kind stands_for decoder = (bytes : List ℕ) × StandsFor kind stands_for decoder bytes

-- The bytes are whole longwords, and these are a file, whose events are told.
abbrev pub TellsBytes : FileKind → (List Event → Type 0) → List ℕ → Type 0
TellsBytes kind Stands bytes = IsWhole bytes × TellsFile kind Stands (longwords bytes)
