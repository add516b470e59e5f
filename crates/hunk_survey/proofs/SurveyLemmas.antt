-- One more file of a survey: what is found of it, and the line about it.
use Rattle.std.proofs.Common.{◌≡◌, ◌∙◌, ℕ, List, [], ◌∷◌, ◌++◌, append_assoc, append-nil, length, ap, sym, arith}
use Rattle.std.proofs.lemmas.List.Elements.{All-cons, All-head, All-tail}
use Rattle.std.specs.List.{flat_map, zip}
use Rattle.hunk_tool.specs.FileSystem.{FileContent}
use Rattle.hunk_survey.specs.Finding.{AreOfFiles, IsOfFile, content_of}
use Rattle.hunk_survey.specs.declared.find.FindOptions.{FindOptions}
use Rattle.hunk_survey.specs.declared.finding.Finding.{Finding}

-- ---- what is found

-- the findings so far are of their files, and the next one is of its file
pub AreOfFiles-more : (options : FindOptions) (contents : List ℕ → FileContent) (names : List (List ℕ)) (findings : List Finding) (name : List ℕ) (finding : Finding)
    → length findings ≡ length names → AreOfFiles options contents names findings → IsOfFile options (content_of contents name) finding
    → AreOfFiles options contents (names ++ name ∷ []) (findings ++ finding ∷ [])
AreOfFiles-more options contents [] [] name finding each front next =
    All-cons (λ about. IsOfFile options (content_of contents about.0) about.1) (name, finding) [] next front
AreOfFiles-more options contents [] (found ∷ findings) name finding each front next = absurd (omega (arith, each))
AreOfFiles-more options contents (first ∷ names) [] name finding each front next = absurd (omega (arith, each))
AreOfFiles-more options contents (first ∷ names) (found ∷ findings) name finding each front next =
    let Holds : List ℕ × Finding → Type 0 = λ about. IsOfFile options (content_of contents about.0) about.1 in
    All-cons Holds (first, found) (zip (names ++ name ∷ []) (findings ++ finding ∷ [])) (All-head Holds (first, found) (zip names findings) front)
    (AreOfFiles-more options contents names findings name finding (omega (arith, each)) (All-tail Holds (first, found) (zip names findings) front) next)

-- ---- the lines

-- what is told of each file so far, and then of the next one
module _ (told : List ℕ → Finding → List ℕ) where
  pub lines-more : (names : List (List ℕ)) (findings : List Finding) (name : List ℕ) (finding : Finding) → length findings ≡ length names
      → flat_map (λ about. told about.0 about.1) (zip (names ++ name ∷ []) (findings ++ finding ∷ [])) ≡ flat_map (λ about. told about.0 about.1) (zip names findings) ++ told name finding
  lines-more [] [] name finding each = append-nil (told name finding)
  lines-more [] (found ∷ findings) name finding each = absurd (omega (arith, each))
  lines-more (first ∷ names) [] name finding each = absurd (omega (arith, each))
  lines-more (first ∷ names) (found ∷ findings) name finding each =
      ap (λ lines. told first found ++ lines) (lines-more names findings name finding (omega (arith, each)))
      ∙ sym (append_assoc (told first found) (flat_map (λ about. told about.0 about.1) (zip names findings)) (told name finding))
