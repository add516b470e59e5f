-- Which input a unit is of, by the numbers of units up to the end of each input.
use Rattle.std.specs.Prelude.{ℕ, List, count_by, nat_le}
use Rattle.hunk_link.specs.declared.refusal.LinkRefusal.{LinkRefusal}
use Rattle.hunk_link.specs.declared.refusal.LinkRefusal.TheVariants as link

-- as many inputs have all their units before this one
abbrev pub ended_before : ℕ → List ℕ → ℕ
ended_before unit ends = count_by (λ end. nat_le end unit) ends

-- the input of the unit that a refusal tells, 0 if it tells none
abbrev pub input_of : {A : Type 0} → LinkRefusal A → List ℕ → ℕ
input_of (link.NoSuchHunk unit hunk target) ends = ended_before unit ends
input_of (link.DuplicateName unit hunk name) ends = ended_before unit ends
input_of (link.UndefinedName unit hunk name) ends = ended_before unit ends
input_of refusal ends = 0
