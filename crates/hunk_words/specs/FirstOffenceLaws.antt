-- Laws about files, valid prefixes and the first offence. The machine stops exactly there.
use Rattle.std.specs.Prelude.{◌≡◌, ℕ, ◌<◌, ◌≤◌, List, [], ◌∷◌, ◌++◌, length, Ok, Err, ◌⊎◌, ◌↔◌}
use Rattle.hunk_base.specs.Longwords.{AllLong}
use Rattle.hunk_words.specs.Machine.{IsComplete}
use Rattle.hunk_words.specs.Reading.{Progress, initial_progress, read_word, read_words}
use Rattle.hunk_words.specs.Files.{most_longwords, IsFile, IsValidPrefix}
use Rattle.hunk_words.specs.FirstOffence.{OffendsAt, EndsEarly, end_reason, FirstOffence}
use Rattle.hunk_words.specs.declared.event.FileKind.{FileKind}
use Rattle.hunk_base.specs.declared.fault.Reason.{Reason}
use Rattle.hunk_base.specs.declared.fault.Reason.TheVariants.{TooLarge}

-- The machine stops at this place for this reason, after a valid prefix: a means to prove the first
-- offence.
pub record Offends (kind : FileKind) (ws : List ℕ) (p : ℕ) (r : Reason) : Type 0 where
  pub front : List ℕ
  pub bad : ℕ
  pub behind : List ℕ
  pub reached : Progress
  pub parts : ws ≡ front ++ (bad ∷ behind)
  pub place : p ≡ length front
  pub good : IsValidPrefix kind front
  pub no_longer : IsValidPrefix kind (front ++ (bad ∷ [])) → ⊥
  pub comes_to : read_words (initial_progress kind) 0 front ≡ Ok reached
  pub reason : read_word reached bad ≡ Err r

-- The machine reads exactly the valid prefixes.
abbrev pub ReadIsPrefix : Type 0
ReadIsPrefix = (kind : FileKind) (ws : List ℕ) (reached : Progress) → AllLong ws → length ws ≤ most_longwords → read_words (initial_progress kind) 0 ws ≡ Ok reached → IsValidPrefix kind ws

abbrev pub PrefixIsRead : Type 0
PrefixIsRead = (kind : FileKind) (ws : List ℕ) → IsValidPrefix kind ws → (reached : Progress) × (read_words (initial_progress kind) 0 ws ≡ Ok reached)

-- Where it stops, a valid prefix ends.
abbrev pub StopsAfterPrefix : Type 0
StopsAfterPrefix = (kind : FileKind) (ws : List ℕ) (p : ℕ) (r : Reason) → AllLong ws → p < most_longwords → read_words (initial_progress kind) 0 ws ≡ Err (p, r) → Offends kind ws p r

-- It stops at the first offence, for the reason of the table or of the rules for sites.
abbrev pub StopsAtOffence : Type 0
StopsAtOffence = (kind : FileKind) (ws : List ℕ) (p : ℕ) (r : Reason) → AllLong ws → p < most_longwords → read_words (initial_progress kind) 0 ws ≡ Err (p, r) → OffendsAt kind ws p r

-- A longword after the most that a file may have is too much.
abbrev pub TooLongOffends : Type 0
TooLongOffends = (kind : FileKind) (front behind : List ℕ) (bad : ℕ) (reached : Progress) → AllLong front → length front ≡ most_longwords → read_words (initial_progress kind) 0 front ≡ Ok reached → OffendsAt kind (front ++ (bad ∷ behind)) most_longwords TooLarge

-- After a valid prefix the machine decides whether it is a file.
abbrev pub CompleteIsFile : Type 0
CompleteIsFile = (kind : FileKind) (ws : List ℕ) (reached : Progress) → AllLong ws → length ws ≤ most_longwords → read_words (initial_progress kind) 0 ws ≡ Ok reached → IsComplete reached.stack ↔ IsFile kind ws

-- If the longwords of a valid prefix end and are not complete, or bytes of a further one follow,
-- they end too early.
abbrev pub EndsAfterPrefix : Type 0
EndsAfterPrefix = (kind : FileKind) (ws : List ℕ) (rest : ℕ) (reached : Progress) → AllLong ws → length ws ≤ most_longwords → read_words (initial_progress kind) 0 ws ≡ Ok reached → (rest ≡ 0 → IsComplete reached.stack → ⊥) → EndsEarly kind ws rest (length ws) (end_reason rest)

-- ---- without the machine

-- Longwords are a file or have a first offence, never both; and it is unique.
abbrev pub FileOrOffence : Type 0
FileOrOffence = (kind : FileKind) (ws : List ℕ) (rest : ℕ) → AllLong ws → (IsFile kind ws × (rest ≡ 0)) ⊎ ((place : ℕ) × (r : Reason) × FirstOffence kind ws rest place r)

abbrev pub FileHasNone : Type 0
FileHasNone = (kind : FileKind) (ws : List ℕ) (place : ℕ) (r : Reason) → IsFile kind ws → FirstOffence kind ws 0 place r → ⊥

abbrev pub OffenceIsOne : Type 0
OffenceIsOne = (kind : FileKind) (ws : List ℕ) (rest p q : ℕ) (r s : Reason) → FirstOffence kind ws rest p r → FirstOffence kind ws rest q s → (p ≡ q) × (r ≡ s)
