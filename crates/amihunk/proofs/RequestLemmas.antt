-- What the requests of `link` and `survey` are made of, and those that reject a conflict.
use Rattle.std.proofs.Common.{◌≡◌, ◌⊎◌, ◌==◌, ◌∷◌, ◌∙◌, suc, Bool, List, [], Option, Some, arith, false, inl, inr, length, not, refl, sym}
use Rattle.std.specs.Borrow.{Bor}
use Rattle.std.proofs.lemmas.Bool.{ne_eqb}
use Rattle.clap.specs.Walk.{texts}
use Rattle.clap.specs.Words.{Text}
use Rattle.clap.specs.declared.error.ErrorKind.TheVariants as error
use Rattle.hunk_tool.specs.declared.link_options.LinkOptions.{LinkOptions}
use Rattle.hunk_store.specs.FileList.{NamedList}
use Rattle.hunk_commands.specs.declared.survey.SurveyOptions.{SurveyOptions}
use Rattle.amihunk.specs.Call.{Call, IsFound, Meaning}
use Rattle.amihunk.specs.Call.Call.{conflict, to_link, to_survey}
use Rattle.amihunk.specs.Call.Meaning.{calls, help, nothing, rejection, version}
use Rattle.amihunk.specs.CommandLine.{IsAnswer, conflict_kind, has_some}
use Rattle.amihunk.specs.declared.conflict.Conflict.{Conflict}
use Rattle.amihunk.specs.declared.conflict.Conflict.TheVariants.{TwoAddresses, NoAddresses, NormalAndExplain, NormalAndShort, NormalAndStrip, NormalAndTrim, JsonAndHtml, ContentAlone, ContentAndHtml, NamesAndJson, NamesAndContent, NamesAndHtml, NamesAndExplain, NoFiles, LinesAlone, InputTwice}

pub some_files : (files : List (Bor Text)) → not (length files == 0) ≡ has_some (texts files)
some_files [] = refl
some_files (x ∷ xs) =
    let some : (suc (length xs) == 0) ≡ false = ne_eqb (suc (length xs)) 0 (λ none. absurd (omega (arith, none))) in
    rw some refl

pub same_link : (out own_out : Text) (map own_map : Option Text) (options own_options : LinkOptions) (globals own_globals explain own_explain : Bool) (files own_files : List Text) (list : Option NamedList)
    → own_out ≡ out → own_map ≡ map → own_options ≡ options → own_globals ≡ globals → own_explain ≡ explain → own_files ≡ files
    → to_link out map options globals explain files list ≡ to_link own_out own_map own_options own_globals own_explain own_files list
same_link out own_out map own_map options own_options globals own_globals explain own_explain files own_files list a b c d e f = rw (a, b, c, d, e, f) refl

pub same_survey : (options own_options : SurveyOptions) (files own_files : List Text) (list : Option NamedList) → own_options ≡ options → own_files ≡ files
    → to_survey options files list ≡ to_survey own_options own_files list
same_survey options own_options files own_files list a b = rw (a, b) refl

-- ---- conflicts

kind_of_conflict : (c : Conflict) → (conflict_kind c ≡ error.ArgumentConflict) ⊎ (conflict_kind c ≡ error.MissingRequiredArgument)
kind_of_conflict TwoAddresses = inl refl
kind_of_conflict NormalAndStrip = inl refl
kind_of_conflict NormalAndShort = inl refl
kind_of_conflict NormalAndTrim = inl refl
kind_of_conflict NormalAndExplain = inl refl
kind_of_conflict JsonAndHtml = inl refl
kind_of_conflict ContentAndHtml = inl refl
kind_of_conflict NamesAndJson = inl refl
kind_of_conflict NamesAndContent = inl refl
kind_of_conflict NamesAndHtml = inl refl
kind_of_conflict NamesAndExplain = inl refl
kind_of_conflict InputTwice = inl refl
kind_of_conflict NoAddresses = inr refl
kind_of_conflict ContentAlone = inr refl
kind_of_conflict NoFiles = inr refl
kind_of_conflict LinesAlone = inr refl

-- what rejects a conflict was found as one
pub conflict_found : (c : Conflict) (found : Option Call) (m : Meaning) → found ≡ Some conflict → IsAnswer (conflict_kind c) m → IsFound found m
conflict_found c found (calls it) is answers = absurd answers
conflict_found c found version is answers = elim (kind_of_conflict c) [
  | inl kind ↦ let same : error.ArgumentConflict ≡ error.DisplayVersion = sym kind ∙ answers in cc
  | inr kind ↦ let same : error.MissingRequiredArgument ≡ error.DisplayVersion = sym kind ∙ answers in cc
]
conflict_found c found help is answers = elim (kind_of_conflict c) [
  | inl kind ↦ let same : error.ArgumentConflict ≡ error.DisplayHelp = sym kind ∙ answers in cc
  | inr kind ↦ let same : error.MissingRequiredArgument ≡ error.DisplayHelp = sym kind ∙ answers in cc
]
conflict_found c found rejection is answers = is
conflict_found c found nothing is answers = tt
