-- named, since the tactics find the others only slowly, or not at all
use Rattle.std.proofs.Common.{◌≡◌, ◌↔◌, ◌∙◌, ℕ, List, Result, Ok, Err, length, refl, sym, ap, subst, arith}
use Rattle.std.proofs.lemmas.Grind.{common_steps}
use Rattle.std.proofs.lemmas.List.{length-map}
use Rattle.std.specs.List.{All}
use Rattle.std.specs.Result.{IsOk}
use Rattle.hunk_loadfile.specs.LoadHunk.{FileHunk}
use Rattle.hunk_loadfile.specs.Rules.{IsLoadHunk}
use Rattle.hunk_loader.specs.Places.{IsFirstRefusal, Placed}
use Rattle.hunk_loader.specs.Sizes.{sizes_of}
use Rattle.hunk_loader.specs.declared.loading.LoadRefusal.{LoadRefusal}
use Rattle.hunk_loader.specs.declared.loading.LoadRefusal.TheVariants.{Place}
use Rattle.hunk_loader.specs.declared.places.PlaceFault.{PlaceFault}
use Rattle.hunk_loader.proofs.loading.load_file.Goals as goal

-- what the check of the places tells
abbrev Tells : Result (Unit {0}) PlaceFault → List FileHunk → List ℕ → Type 0
Tells checked hunks bases = (fault : PlaceFault) → (checked ≡ Err fault) ↔ IsFirstRefusal (sizes_of hunks) bases fault

refused : {T : Type 0} (checked : Result (Unit {0}) PlaceFault) (hunks : List FileHunk) (bases : List ℕ) (first : PlaceFault) → checked ≡ Err first → Tells checked hunks bases
    → (answer : Result T LoadRefusal) → answer ≡ Err (Place first) → (fault : PlaceFault) → (answer ≡ Err (Place fault)) ↔ IsFirstRefusal (sizes_of hunks) bases fault
refused checked hunks bases first is tells answer fails fault =
    (λ same. (tells fault).0 (cc), λ broken. let found : checked ≡ Err fault = (tells fault).1 broken in cc)

taken : {T : Type 0} (checked : Result (Unit {0}) PlaceFault) (hunks : List FileHunk) (bases : List ℕ) (done : Unit {0}) → checked ≡ Ok done → Tells checked hunks bases
    → (answer : Result T LoadRefusal) → ((fault : PlaceFault) → answer ≡ Err (Place fault) → ⊥) → (fault : PlaceFault) → (answer ≡ Err (Place fault)) ↔ IsFirstRefusal (sizes_of hunks) bases fault
taken checked hunks bases done is tells answer other fault =
    (λ same. absurd (other fault same), λ broken. let found : checked ≡ Err fault = (tells fault).1 broken in absurd (cc))

pub returns-in-Err-clause-image : goal.returns-in-Err-clause-image
returns-in-Err-clause-image g c = grind (arith, common_steps)

pub returns-in-Err-clause-placed : goal.returns-in-Err-clause-placed
returns-in-Err-clause-placed g c = grind (arith, common_steps)

pub returns-in-Err-clause-refused : goal.returns-in-Err-clause-refused
returns-in-Err-clause-refused g c =
    refused c.check_sizes_with.result c.args.file c.args.bases.now c.in-Err.fault c.in-Err.is (subst (λ (hunks : List FileHunk). Tells c.check_sizes_with.result hunks c.args.bases.now) c.hunks.ensures.value c.check_sizes_with.ensures.refused) _ refl

pub returns-in-Err-clause-read : goal.returns-in-Err-clause-read
returns-in-Err-clause-read g c = grind (arith, common_steps)

pub moved_hunks-requires-clause-counted : goal.moved_hunks-requires-clause-counted
moved_hunks-requires-clause-counted g c = grind (arith, common_steps)

pub moved_hunks-requires-clause-valid : goal.moved_hunks-requires-clause-valid
moved_hunks-requires-clause-valid g c =
    let file : List FileHunk = c.args.file in
    let hunks : List FileHunk = c.hunks.result.now in
    let placed : Placed (sizes_of hunks) c.args.bases.now = c.check_sizes_with.ensures.placed.0 (subst IsOk (sym c.in_default.is) refl) in
    let count : length file ≡ length c.args.bases.now = sym (ap length c.hunks.ensures.value) ∙ sym (length-map hunks (λ (hunk : FileHunk). hunk.size)) ∙ placed.one_base_each in
    subst (All (IsLoadHunk (length c.args.bases.now))) (sym c.into_hunks.ensures.value) (subst (λ (n : ℕ). All (IsLoadHunk n) file) count c.into_hunks.ensures.valid.each)

pub returns-in-Ok-clause-image : goal.returns-in-Ok-clause-image
returns-in-Ok-clause-image g c = grind (arith, common_steps)

pub returns-in-Ok-clause-placed : goal.returns-in-Ok-clause-placed
returns-in-Ok-clause-placed g c = grind (arith, common_steps)

pub returns-in-Ok-clause-refused : goal.returns-in-Ok-clause-refused
returns-in-Ok-clause-refused g c =
    taken c.check_sizes_with.result c.args.file c.args.bases.now c.in_default.field-0 c.in_default.is (subst (λ (hunks : List FileHunk). Tells c.check_sizes_with.result hunks c.args.bases.now) c.hunks.ensures.value c.check_sizes_with.ensures.refused) _ (λ fault same. cc)

pub returns-in-Ok-clause-read : goal.returns-in-Ok-clause-read
returns-in-Ok-clause-read g c = grind (arith, common_steps)

pub returns-in-Err-moved_hunks-clause-image : goal.returns-in-Err-moved_hunks-clause-image
returns-in-Err-moved_hunks-clause-image g c = grind (arith, common_steps)

pub returns-in-Err-moved_hunks-clause-placed : goal.returns-in-Err-moved_hunks-clause-placed
returns-in-Err-moved_hunks-clause-placed g c = grind (arith, common_steps)

pub returns-in-Err-moved_hunks-clause-refused : goal.returns-in-Err-moved_hunks-clause-refused
returns-in-Err-moved_hunks-clause-refused g c =
    taken c.check_sizes_with.result c.args.file c.args.bases.now c.in_default.field-0 c.in_default.is (subst (λ (hunks : List FileHunk). Tells c.check_sizes_with.result hunks c.args.bases.now) c.hunks.ensures.value c.check_sizes_with.ensures.refused) _ (λ fault same. cc)

pub returns-in-Err-moved_hunks-clause-read : goal.returns-in-Err-moved_hunks-clause-read
returns-in-Err-moved_hunks-clause-read g c = grind (arith, common_steps)
