-- The text that tells a failure, as it is written.
use Rattle.std.proofs.Common.{Bool, Err, inl, inr, List, Ok, Option, Result, ℕ}
use Rattle.hunk_base.specs.Streams.{WroteText}
use Rattle.hunk_store.specs.Failure.{TellsLine}

module _ {W : Type 0} (taken : W → Option (List ℕ)) (failed : W → Bool) (old new : W) (text : List ℕ) where
  -- what was written tells the text, or a write failed
  pub tells_text : {E : Type 0} (r : Result (Unit {0}) E) → WroteText taken failed old new text r → TellsLine taken failed old new text
  tells_text (Ok done) wrote = inl wrote
  tells_text (Err fault) wrote = inr wrote
