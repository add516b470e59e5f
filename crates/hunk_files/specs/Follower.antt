-- What a follower stands for: the bytes that it was fed, and where their longwords stop being a file.
use Rattle.std.specs.Prelude.{◌≡◌, ℕ, List, ◌∷◌, ◌++◌, length, Option, Some, None}
use Rattle.hunk_words.specs.DecoderCore.{StandsFor as CoreStandsFor, kept}
use Rattle.hunk_words.specs.Due.{Dues}
use Rattle.hunk_base.specs.Longwords.{longwords}
use Rattle.hunk_base.specs.Splitter.{StandsFor as SplitterStandsFor}
use Rattle.hunk_words.specs.declared.event.Event.{Event}
use Rattle.hunk_words.specs.declared.event.FileKind.{FileKind}
use Rattle.hunk_base.specs.declared.fault.Fault.{Fault}
use Rattle.hunk_base.specs.declared.fault.Refusal.{Refusal}
use Rattle.hunk_base.specs.declared.fault.Refusal.TheVariants as refusal_is
use Rattle.hunk_files.specs.Path.{IsPathOf, blocks_begun}
use Rattle.hunk_files.specs.declared.follower.Follower.{Follower}

-- the error that it keeps
abbrev pub refusal_of : {T : Type 0} → Follower T → Option Refusal
refusal_of follower = kept follower.core

-- Its last longword is the one at this place, what was due there is known, and so are the blocks before.
pub record StoppedAt {T : Type 0} (kind : FileKind) (follower : Follower T) (ws : List ℕ) (place : ℕ) : Type 0 where
  pub front : List ℕ
  pub behind : List ℕ
  pub parts : ws ≡ front ++ (follower.last ∷ behind)
  pub at_place : place ≡ length front
  pub due : Dues kind front follower.due
  pub path : IsPathOf follower.path (blocks_begun kind front)

-- Its core stands for the longwords. If no error is kept, the path is that of all of them; at a fault
-- it stopped.
pub record FollowsWords {T : Type 0} (kind : FileKind) (stands_for : T → List Event → Type 0) (follower : Follower T) (ws : List ℕ) : Type 0 where
  pub core : CoreStandsFor kind stands_for follower.core ws
  pub path : refusal_of follower ≡ None → IsPathOf follower.path (blocks_begun kind ws)
  pub stopped : (fault : Fault) → refusal_of follower ≡ Some (refusal_is.Fault fault) → StoppedAt kind follower ws fault.place

-- If no error is kept, the bytes of an unfinished longword are held.
pub record StandsFor {T : Type 0} (kind : FileKind) (stands_for : T → List Event → Type 0) (follower : Follower T) (bytes : List ℕ) : Type 0 where
  pub held : refusal_of follower ≡ None → SplitterStandsFor follower.splitter bytes
  pub words : FollowsWords kind stands_for follower (longwords bytes)
