-- What a decoder of object files stands for.
use Rattle.std.specs.Prelude.{List, ℕ}
use Rattle.hunk_words.specs.Decoder.{StandsFor as DecoderStandsFor}
use Rattle.hunk_words.specs.declared.decoder.Decoder.{Decoder}
use Rattle.hunk_words.specs.declared.event.FileKind.TheVariants.{Object}
use Rattle.hunk_objects.specs.UnitBuilder.{StandsFor as BuilderStandsFor}
use Rattle.hunk_objects.specs.declared.unit_builder.UnitBuilder.{UnitBuilder}

-- the bytes that it was fed
abbrev pub StandsFor : {A : Type 0} → Decoder (UnitBuilder A) → List ℕ → Type 0
StandsFor decoder bytes = DecoderStandsFor Object BuilderStandsFor decoder bytes
