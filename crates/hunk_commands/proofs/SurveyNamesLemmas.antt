-- The names of all files, by those of the list that were read.
use Rattle.std.proofs.Common.{◌≡◌, ◌∙◌, ◌++◌, ℕ, Bool, List, [], Option, Some, ap, append-nil, append_assoc, inr, refl, subst, sym}
use Rattle.hunk_tool.specs.FileSystem.{FileContent, IsContent}
use Rattle.hunk_tool.specs.FileSystem.FileContent.{known, missing, unknown}
use Rattle.hunk_store.specs.FileList.{AreNamesIn, NamedList, names_in}
use Rattle.hunk_store.specs.NameReader.{AreAllNames, AreFirstNames}
use Rattle.hunk_store.specs.Store.{Contents}
use Rattle.hunk_store.specs.declared.failure.Failure.{Failure}
use Rattle.hunk_store.specs.declared.file_list.NameEnd.{NameEnd}
use Rattle.hunk_commands.specs.Survey.{AreNotAllTold, AreUntold}
use Rattle.hunk_commands.specs.declared.survey.Plan.{Plan}
use Rattle.hunk_commands.proofs.SurveyLemmas.{untold-longer}

-- all names of a list were read
pub names-known : (content : FileContent) (end : NameEnd) (left : Option (List ℕ)) (listed : List (List ℕ)) → IsContent content left → AreAllNames end left listed → AreNamesIn content end listed
names-known unknown end left listed from all = tt
names-known missing end left listed from all = absurd from
names-known (known bytes) end left listed from all = sym (all bytes from)

-- the names in a list, of which these are the first
pub record AreLonger (content : FileContent) (end : NameEnd) (listed : List (List ℕ)) : Type 0 where
  pub names : List (List ℕ)
  pub are : AreNamesIn content end names
  pub more : List (List ℕ)
  pub is : names ≡ listed ++ more

-- the first names of a list were read
pub names-longer : (content : FileContent) (end : NameEnd) (left : Option (List ℕ)) (listed : List (List ℕ)) → IsContent content left → AreFirstNames end left listed → AreLonger content end listed
names-longer unknown end left listed from first = record { names = listed; are = tt; more = []; is = sym (append-nil listed) }
names-longer missing end left listed from first = absurd from
names-longer (known bytes) end left listed from first =
    let found = first bytes from in
    record { names = names_in end bytes; are = refl; more = found.0; is = found.1 }

-- none was
pub names-unread : (content : FileContent) (end : NameEnd) (left : Option (List ℕ)) → IsContent content left → AreLonger content end []
names-unread content end left from = names-longer content end left [] from (λ bytes is. (names_in end bytes, refl))

module _ (plan : Plan) (contents : Contents) (list : NamedList) (files : List (List ℕ)) (start now : Option (List ℕ)) (failed : Bool) (failure : Failure) (left : Option (List ℕ)) where
  -- it stopped in the lines about the files before those in the list
  pub stopped-in-files : IsContent (contents list.file) left → AreUntold plan contents (Some list) files start now failed failure → AreNotAllTold plan contents files (Some list) start now failed failure
  stopped-in-files from stopped =
      let all = names-unread (contents list.file) list.end left from in
      inr (files ++ all.names, (all.names, all.are, refl), untold-longer plan contents (Some list) files all.names start now failed failure stopped)

  -- it stopped in those about the files in the list
  pub stopped-in-list : (listed : List (List ℕ)) → IsContent (contents list.file) left → AreFirstNames list.end left listed → AreUntold plan contents (Some list) (files ++ listed) start now failed failure
      → AreNotAllTold plan contents files (Some list) start now failed failure
  stopped-in-list listed from first stopped =
      let all = names-longer (contents list.file) list.end left listed from first in
      inr (
        files ++ all.names,
        (all.names, all.are, refl),
        subst (λ names. AreUntold plan contents (Some list) names start now failed failure) (append_assoc files listed all.more ∙ ap (λ names. files ++ names) (sym all.is))
            (untold-longer plan contents (Some list) (files ++ listed) all.more start now failed failure stopped),
      )
