-- Fewer than four bytes may be the beginning of an object file.
use Rattle.std.proofs.Common.{◌≤◌, List, [], ◌∷◌, ℕ, length, arith}
use Rattle.std.proofs.lemmas.Result.{on_ok_weaker}
use Rattle.hunk_base.specs.Longwords.{longwords}
use Rattle.hunk_words.specs.Files.{IsValidPrefix}
use Rattle.hunk_words.specs.declared.event.FileKind.{FileKind}
use Rattle.hunk_words.specs.declared.event.FileKind.TheVariants as kind_is
use Rattle.hunk_files.specs.FileDecoder.{KindBegins}
use Rattle.hunk_files.specs.FileValue.{kind_of_bytes}
use Rattle.hunk_files.proofs.FileDecoderLemmas.{front-few}
use Rattle.hunk_files.proofs.hunk_file.HunkFileDecoder.feed.Goals as goal

of-kind : (kind : FileKind) (bytes : List ℕ) → KindBegins (λ bs. IsValidPrefix kind_is.Object (longwords bs)) (λ bs. IsValidPrefix kind_is.Load (longwords bs)) kind bytes → IsValidPrefix kind (longwords bytes)
of-kind kind_is.Object bytes begins = begins
of-kind kind_is.Load bytes begins = begins

few-or-more : (bytes : List ℕ)
    → (4 ≤ length bytes → KindBegins (λ bs. IsValidPrefix kind_is.Object (longwords bs)) (λ bs. IsValidPrefix kind_is.Load (longwords bs)) (kind_of_bytes bytes) bytes)
    → IsValidPrefix (kind_of_bytes bytes) (longwords bytes)
few-or-more [] begins = front-few [] (omega arith)
few-or-more (a ∷ []) begins = front-few (a ∷ []) (omega arith)
few-or-more (a ∷ b ∷ []) begins = front-few (a ∷ b ∷ []) (omega arith)
few-or-more (a ∷ b ∷ c ∷ []) begins = front-few (a ∷ b ∷ c ∷ []) (omega arith)
few-or-more (a ∷ b ∷ c ∷ d ∷ bytes) begins = of-kind (kind_of_bytes (a ∷ b ∷ c ∷ d ∷ bytes)) (a ∷ b ∷ c ∷ d ∷ bytes) (begins (omega arith))

pub returns-clause-front : goal.returns-clause-front
returns-clause-front g c = on_ok_weaker c.feed.result (λ begins bytes stands. few-or-more bytes (begins bytes stands)) c.feed.ensures.front
