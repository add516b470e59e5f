-- What a decoder of load files stands for.
use Rattle.std.specs.Prelude.{List, ℕ}
use Rattle.hunk_words.specs.Decoder.{StandsFor as DecoderStandsFor}
use Rattle.hunk_words.specs.declared.event.FileKind.TheVariants.{Load}
use Rattle.hunk_loadfile.specs.LoadBuilder.{StandsFor as BuilderStandsFor}
use Rattle.hunk_words.specs.declared.decoder.Decoder.{Decoder}
use Rattle.hunk_loadfile.specs.declared.load_builder.LoadBuilder.{LoadBuilder}

-- the bytes that it was fed
abbrev pub StandsFor : {A : Type 0} → Decoder (LoadBuilder A) → List ℕ → Type 0
StandsFor decoder bytes = DecoderStandsFor Load BuilderStandsFor decoder bytes
