-- The words for the two memories.
use Rattle.std.proofs.Common.{ℕ, List, ◌++◌, ap₂, codes}
use Rattle.hunk_base.proofs.TextLemmas.{Puts-as}
use Rattle.hunk_text.specs.DifferenceText.{both}
use Rattle.hunk_text.specs.Listing.{adds_hunk}
use Rattle.hunk_text.proofs.difference_text.write_memories.Goals as goal

abbrev memories_text : ℕ → List ℕ → List ℕ → List ℕ
memories_text hunk first second = adds_hunk hunk ++ codes " memory: " ++ both first second

pub returns : goal.returns
returns g c = Puts-as (ap₂ (memories_text c.args.hunk) c.memory_word-first.ensures c.memory_word-second.ensures) c.write_words.ensures
