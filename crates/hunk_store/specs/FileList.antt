-- Lists of the names of files, which are files themselves.
use Rattle.std.specs.Prelude.{◌≡◌, ◌==◌, ◌++◌, ◌∷◌, ℕ, List, Option, None, Some, option_map, length, ⊤}
use Rattle.std.specs.List.{All, filter, slice_split}
use Rattle.std.specs.Str.{IsUtf8}
use Rattle.hunk_addresses.specs.BasesFile.{has_bytes}
use Rattle.hunk_tool.specs.FileSystem.{FileContent, MayBeMissing}
use Rattle.hunk_tool.specs.FileSystem.FileContent.{unknown, missing, known}
use Rattle.hunk_tool.specs.declared.tool_fault.ToolFault.TheVariants.{OutOfMemory}
use Rattle.hunk_store.specs.Store.{Contents}
use Rattle.hunk_store.specs.declared.failure.Failure.{Failure}
use Rattle.hunk_store.specs.declared.failure.Failure.TheVariants.{BadName, Opening, Reading, Tool}
use Rattle.hunk_store.specs.declared.file_list.FileList.{FileList}
use Rattle.hunk_store.specs.declared.file_list.NameEnd.{NameEnd}
use Rattle.hunk_store.specs.declared.file_list.NameEnd.TheVariants.{Line, Zero}

-- a list: the name of its file, and what ends each name in it
pub record NamedList : Type 0 where
  pub file : List ℕ
  pub end : NameEnd

abbrev pub list_of : FileList → NamedList
list_of list = record { file = list.file.now; end = list.end }

-- the list, if one is given
abbrev pub given_list : Option FileList → Option NamedList
given_list = option_map list_of

-- a zero byte, or a line feed (10)
abbrev pub end_byte : NameEnd → ℕ
end_byte Zero = 0
end_byte Line = 10

-- the names in a list of these bytes: what stands between the bytes that end names, unless it is empty
abbrev pub names_in : NameEnd → List ℕ → List (List ℕ)
names_in end bytes = filter has_bytes (slice_split (λ byte. byte == end_byte end) bytes)

-- these are the names in a list of which this is known
abbrev pub AreNamesIn : FileContent → NameEnd → List (List ℕ) → Type 0
AreNamesIn unknown end names = ⊤
AreNamesIn missing end names = ⊥
AreNamesIn (known bytes) end names = names ≡ names_in end bytes

-- these are the names of all files that are asked for: those that are given, and after them those in the list
abbrev pub AreNames : Contents → (files : List (List ℕ)) → Option NamedList → (names : List (List ℕ)) → Type 0
AreNames contents files None names = names ≡ files
AreNames contents files (Some list) names = (listed : List (List ℕ)) × AreNamesIn (contents list.file) list.end listed × (names ≡ files ++ listed)

-- why the list is not open: it cannot be opened, or out of memory
abbrev pub IsUnopenedList : Contents → NamedList → Failure → Type 0
IsUnopenedList contents list (Opening name reason) = (name.now ≡ list.file) × MayBeMissing (contents list.file)
IsUnopenedList contents list (Tool fault) = fault ≡ OutOfMemory 0
IsUnopenedList contents list _ = ⊥

-- the first name in the list that is not UTF-8 has this index
pub record IsBadName (names : List (List ℕ)) (index : ℕ) : Type 0 where
  pub before : List (List ℕ)
  pub bad : List ℕ
  pub after : List (List ℕ)
  pub among : names ≡ before ++ bad ∷ after
  pub at : length before ≡ index
  pub earlier : All IsUtf8 before
  pub is_bad : IsUtf8 bad → ⊥

-- why the names in a list are not known as texts: one of them is not UTF-8, a read failed, or the list is not open
abbrev pub IsListFailure : Contents → NamedList → Failure → Type 0
IsListFailure contents list (BadName name index) =
    (name.now ≡ list.file) × ((names : List (List ℕ)) × AreNamesIn (contents list.file) list.end names × IsBadName names index)
IsListFailure contents list (Reading name) = (name.now ≡ list.file) × (contents list.file ≡ unknown)
IsListFailure contents list failure = IsUnopenedList contents list failure
