-- What reading one name does to what is unread of a list.
use Rattle.std.specs.Prelude.{◌≡◌, ◌++◌, [], ℕ, List, Bool, Option, Some}
use Rattle.std.specs.Io.Buffered.{reader_inner, reader_remaining}
use Rattle.hunk_base.specs.declared.streams.Source.{Ghosts}
use Rattle.hunk_store.specs.FileList.{names_in}
use Rattle.hunk_store.specs.declared.file_list.NameEnd.{NameEnd}
use Rattle.hunk_store.specs.declared.name_reader.NameReader.{NameReader}

-- the bytes of the list after the names that were read, if they are known
abbrev pub unread : {F : Type 0} {g : Ghosts F} (left : F → Option (List ℕ)) → NameReader F g → Option (List ℕ)
unread left names = reader_remaining (λ bytes. left bytes.file) names.bytes

-- whether a read of the list has failed
abbrev pub has_failed : {F : Type 0} {g : Ghosts F} (failed : F → Bool) → NameReader F g → Bool
has_failed failed names = failed (reader_inner names.bytes).file

-- the first names of what was unread are these, and the others are those of what is unread now
abbrev pub TakesNames : NameEnd → (old new : Option (List ℕ)) (names : List (List ℕ)) → Type 0
TakesNames end old new names =
    (bytes : List ℕ) → old ≡ Some bytes → (rest : List ℕ) × (new ≡ Some rest) × (names_in end bytes ≡ names ++ names_in end rest)

-- the first names of what was unread are these
abbrev pub AreFirstNames : NameEnd → Option (List ℕ) → (names : List (List ℕ)) → Type 0
AreFirstNames end old names = (bytes : List ℕ) → old ≡ Some bytes → (more : List (List ℕ)) × (names_in end bytes ≡ names ++ more)

-- the names in what was unread are these
abbrev pub AreAllNames : NameEnd → Option (List ℕ) → (names : List (List ℕ)) → Type 0
AreAllNames end old names = (bytes : List ℕ) → old ≡ Some bytes → names_in end bytes ≡ names

-- there is no name in what is unread
abbrev pub HasNoName : NameEnd → Option (List ℕ) → Type 0
HasNoName end old = (bytes : List ℕ) → old ≡ Some bytes → names_in end bytes ≡ []
