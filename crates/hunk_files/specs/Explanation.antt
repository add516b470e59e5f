-- What is told of the first offence of a file.
use Rattle.std.specs.Prelude.{◌≡◌, ℕ, ◌*◌, List, ◌∷◌, ◌++◌, length, Bool, IsTrue, Option, Some, None}
use Rattle.hunk_words.specs.Due.{Dues}
use Rattle.hunk_words.specs.Files.{IsFile}
use Rattle.hunk_words.specs.FirstOffence.{FirstOffence}
use Rattle.hunk_base.specs.Longwords.{longwords, unfinished, IsWhole}
use Rattle.hunk_words.specs.declared.event.FileKind.{FileKind}
use Rattle.hunk_base.specs.declared.fault.ReadFault.{ReadFault}
use Rattle.hunk_base.specs.declared.fault.ReadFault.TheVariants as read_fault
use Rattle.hunk_base.specs.declared.fault.Refusal.TheVariants as refusal_is
use Rattle.hunk_files.specs.Path.{IsPathOf, blocks_begun}
use Rattle.hunk_files.specs.declared.explanation.Explanation.{Explanation}
use Rattle.hunk_files.specs.declared.explanation.Found.{Found}
use Rattle.hunk_files.specs.declared.explanation.Found.TheVariants.{Longword, End}

-- What follows these longwords is a further one, or the end after so many bytes of one.
abbrev pub Follows : (front ws : List ℕ) (rest : ℕ) → Found → Type 0
Follows front ws rest (Longword word) = (behind : List ℕ) × (ws ≡ front ++ (word ∷ behind))
Follows front ws rest (End count) = (ws ≡ front) × (count ≡ rest)

-- The bytes are no file of this kind: their first offence, what was found there and what was due, and
-- the blocks that began before it.
pub record Explains (kind : FileKind) (e : Explanation) (bytes : List ℕ) : Type 0 where
  pub offends : FirstOffence kind (longwords bytes) (length (unfinished bytes)) e.fault.place e.fault.reason
  pub front : List ℕ
  pub at_place : e.fault.place ≡ length front
  pub at_byte : e.offset ≡ 4 * length front
  pub found : Follows front (longwords bytes) (length (unfinished bytes)) e.found
  pub due : Dues kind front e.due
  pub path : IsPathOf e.path (blocks_begun kind front)

-- The bytes are explained, or they are a file.
abbrev pub IsExplained : FileKind → Option Explanation → List ℕ → Type 0
IsExplained kind (Some e) bytes = Explains kind e bytes
IsExplained kind None bytes = IsWhole bytes × IsFile kind (longwords bytes)

-- the end, and not a longword
abbrev pub IsEnd : Found → Type 0
IsEnd (Longword word) = ⊥
IsEnd (End count) = Unit {0}

-- A file, or its end, is found only where the reader ended.
abbrev pub EndsWith : Option Explanation → Bool → Type 0
EndsWith None ended = IsTrue ended
EndsWith (Some e) ended = IsEnd e.found → IsTrue ended

-- Why nothing is told: memory ran out, or a read failed.
abbrev pub IsUnexplained : Bool → ReadFault → Type 0
IsUnexplained failed (read_fault.Refused (refusal_is.Fault fault)) = ⊥
IsUnexplained failed (read_fault.Refused refusal_is.OutOfMemory) = Unit {0}
IsUnexplained failed read_fault.Device = IsTrue failed
