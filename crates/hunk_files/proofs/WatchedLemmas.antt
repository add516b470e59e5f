-- The longwords of a file, the latest first.
use Rattle.std.proofs.Common.{◌≡◌, ℕ, List, [], ◌∷◌, ◌++◌, length, reverse, ap, ◌∙◌, arith}
use Rattle.std.proofs.lemmas.List.{reverse-append, length-reverse}
use Rattle.hunk_words.specs.Due.{dues_from, dues_read}
use Rattle.hunk_words.specs.Kinds.{Kind, width}
use Rattle.hunk_words.specs.Machine.{due}
use Rattle.hunk_words.specs.Reading.{start_of, word_next}
use Rattle.hunk_words.specs.declared.due.Due.{Due}
use Rattle.hunk_words.specs.declared.event.FileKind.{FileKind}
use Rattle.hunk_files.specs.Watched.{latest_first}

pub latest-next : (kind : FileKind) (ws : List ℕ) (w : ℕ) (due : Due) → dues_read kind (ws ++ w ∷ []) ≡ dues_read kind ws ++ (due, w) ∷ [] → latest_first kind (ws ++ w ∷ []) ≡ (due, w) ∷ latest_first kind ws
latest-next kind ws w due read = ap (λ ds. reverse ds) read ∙ reverse-append (dues_read kind ws) ((due, w) ∷ [])

length-dues : (stack : List Kind) (ws : List ℕ) → length (dues_from stack ws) ≡ length ws
length-dues stack [] = omega arith
length-dues stack (w ∷ ws) = let rest = length-dues (word_next (width (due stack)) stack w) ws in omega (arith, rest)

pub length-latest : (kind : FileKind) (ws : List ℕ) → length (latest_first kind ws) ≡ length ws
length-latest kind ws = length-reverse (dues_read kind ws) ∙ length-dues (start_of kind ∷ []) ws
