-- The words for the two kinds.
use Rattle.std.proofs.Common.{ℕ, List, ◌++◌, ap₂, codes}
use Rattle.hunk_base.proofs.TextLemmas.{Puts-as}
use Rattle.hunk_text.specs.DifferenceText.{both}
use Rattle.hunk_text.specs.Listing.{adds_hunk}
use Rattle.hunk_text.proofs.difference_text.write_kinds.Goals as goal

abbrev kinds_text : ℕ → List ℕ → List ℕ → List ℕ
kinds_text hunk first second = adds_hunk hunk ++ codes " kind: " ++ both first second

pub returns : goal.returns
returns g c = Puts-as (ap₂ (kinds_text c.args.hunk) c.kind_word-first.ensures c.kind_word-second.ensures) c.write_words.ensures
