-- Why a load file that was read is not loaded.
use Rattle.std.proofs.Common.{◌≡◌, ℕ, List, Option, Some, Err, sym, subst}
use Rattle.hunk_loadfile.specs.LoadHunk.{FileHunk}
use Rattle.hunk_loader.specs.Places.{IsFirstRefusal}
use Rattle.hunk_loader.specs.Sizes.{sizes_of}
use Rattle.hunk_loader.specs.declared.places.PlaceFault.{PlaceFault}
use Rattle.amihunk_c.specs.Answers.{place_answer}
use Rattle.amihunk_c.specs.LoadRead.{IsLoadOf}
use Rattle.amihunk_c.specs.LoadRead.IsUnloaded.{misplaced}
use Rattle.amihunk_c.specs.declared.answer.Answer.{Answer}

pub IsLoadOf-misplaced : (bases : List ℕ) (file : Option (List FileHunk)) (hunks : List FileHunk) (fault : PlaceFault) (answer : Answer) → file ≡ Some hunks
    → IsFirstRefusal (sizes_of hunks) bases fault → answer ≡ place_answer fault → IsLoadOf bases file (Err answer)
IsLoadOf-misplaced bases file hunks fault answer is first told = subst (λ (f : Option (List FileHunk)). IsLoadOf bases f (Err answer)) (sym is) (misplaced fault first told)
