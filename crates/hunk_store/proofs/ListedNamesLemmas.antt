-- The names in a list as texts, and the first one that is none.
use Rattle.std.proofs.Common.{◌≡◌, ◌∙◌, ◌++◌, ℕ, List, [], ◌∷◌, length, Option, refl, sym, ap, append_assoc}
use Rattle.std.specs.List.{All}
use Rattle.std.specs.Str.{IsUtf8}
use Rattle.hunk_tool.specs.FileSystem.{FileContent, IsContent}
use Rattle.hunk_tool.specs.FileSystem.FileContent.{known, missing, unknown}
use Rattle.hunk_store.specs.FileList.{AreNamesIn, IsBadName, IsListFailure, list_of, names_in}
use Rattle.hunk_store.specs.ListedNames.{IsNoText}
use Rattle.hunk_store.specs.NameReader.{TakesNames}
use Rattle.hunk_store.specs.Store.{Contents}
use Rattle.hunk_store.specs.declared.failure.Failure.{Failure}
use Rattle.hunk_store.specs.declared.failure.Failure.TheVariants.{BadName, BadNumber, MapOverFile, Opening, Printing, Reading, SameFile, TooLong, TooManyAddresses, Tool, Writing}
use Rattle.hunk_store.specs.declared.file_list.FileList.{FileList}
use Rattle.hunk_store.specs.declared.file_list.NameEnd.{NameEnd}
use Rattle.hunk_store.proofs.NameReaderLemmas.{takes-first, takes-more}

-- after names that are texts a name was taken that is none
bad_name : (content : FileContent) (end : NameEnd) (start between new : Option (List ℕ)) (before : List (List ℕ)) (bad : List ℕ) (index : ℕ)
    → IsContent content start → TakesNames end start between before → TakesNames end between new (bad ∷ []) → All IsUtf8 before → length before ≡ index → (IsUtf8 bad → ⊥)
    → (names : List (List ℕ)) × AreNamesIn content end names × IsBadName names index
bad_name unknown end start between new before bad index from_start taken next texts count is_bad =
    (before ++ bad ∷ [], tt, record { before = before; bad = bad; after = []; among = refl; at = count; earlier = texts; is_bad = is_bad })
bad_name missing end start between new before bad index from_start taken next texts count is_bad = absurd from_start
bad_name (known bytes) end start between new before bad index from_start taken next texts count is_bad =
    let first = takes-first end start new (before ++ bad ∷ []) (takes-more end start between new before (bad ∷ []) taken next) bytes from_start in (
      names_in end bytes,
      refl,
      record {
        before = before;
        bad = bad;
        after = first.0;
        among = first.1 ∙ append_assoc before (bad ∷ []) first.0;
        at = count;
        earlier = texts;
        is_bad = is_bad;
      },
    )

-- the names in the list are not known as texts, since the next one is none
pub IsListFailure-no_text : (contents : Contents) (list : FileList) (start between new : Option (List ℕ)) (before : List (List ℕ)) (name : List ℕ) (index : ℕ) (failure : Failure)
    → IsContent (contents list.file.now) start → TakesNames list.end start between before → TakesNames list.end between new (name ∷ []) → All IsUtf8 before → length before ≡ index
    → IsNoText list.file index name failure → IsListFailure contents (list_of list) failure
IsListFailure-no_text contents list start between new before name index (BadName file number) from_start taken next texts count is =
    (ap (λ f. f.now) is.0, bad_name (contents list.file.now) list.end start between new before name number from_start taken next texts (count ∙ sym is.1) is.2)
IsListFailure-no_text contents list start between new before name index (Tool fault) from_start taken next texts count is = is
IsListFailure-no_text contents list start between new before name index (BadNumber addresses part) from_start taken next texts count is = absurd is
IsListFailure-no_text contents list start between new before name index (Opening file reason) from_start taken next texts count is = absurd is
IsListFailure-no_text contents list start between new before name index (TooManyAddresses file) from_start taken next texts count is = absurd is
IsListFailure-no_text contents list start between new before name index (TooLong file) from_start taken next texts count is = absurd is
IsListFailure-no_text contents list start between new before name index (Reading file) from_start taken next texts count is = absurd is
IsListFailure-no_text contents list start between new before name index (Writing file) from_start taken next texts count is = absurd is
IsListFailure-no_text contents list start between new before name index (SameFile file) from_start taken next texts count is = absurd is
IsListFailure-no_text contents list start between new before name index (MapOverFile file) from_start taken next texts count is = absurd is
IsListFailure-no_text contents list start between new before name index Printing from_start taken next texts count is = absurd is
