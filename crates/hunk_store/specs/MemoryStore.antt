-- What is in the files of a store in memory.
use Rattle.std.specs.Borrow.{Bor}
use Rattle.std.specs.BTreeMap.{get_by_text}
use Rattle.std.specs.Prelude.{◌≡◌, ℕ, List, false, IsTrue, Option, Some, None}
use Rattle.hunk_link.specs.NameHasher.{begun_with}
use Rattle.hunk_link.specs.declared.name_hasher.NameHasher.{NameHasher}
use Rattle.hunk_tool.specs.FileSystem.{FileContent}
use Rattle.hunk_tool.specs.FileSystem.FileContent.{missing, known, unknown}
use Rattle.hunk_store.specs.Store.{Contents}
use Rattle.hunk_store.specs.declared.memory_store.MemoryStore.{MemoryStore}

-- what is in a file with these bytes, or that there is none
abbrev pub content_found : Option (Bor (List ℕ)) → FileContent
content_found None = missing
content_found (Some bytes) = known bytes.now

-- what is in each file of a store
abbrev pub content_in : MemoryStore → Contents
content_in store name = content_found (get_by_text store.files name)

-- no read of a file in memory fails
pub never_fails : (store : MemoryStore) (name : List ℕ) → IsTrue false → content_in store name ≡ unknown
never_fails store name failing = cc

-- of each file it is known whether it is there
found_known : (found : Option (Bor (List ℕ))) → content_found found ≡ unknown → ⊥
found_known None is = cc
found_known (Some bytes) is = cc

-- so it is not that nothing is known of a file
pub all_known : (store other : MemoryStore) (name another : List ℕ) → content_in store name ≡ unknown → content_in other another ≡ unknown
all_known store other name another is = absurd (found_known (get_by_text store.files name) is)

-- how names in its files are hashed: by a key that is no secret
abbrev pub keyless : NameHasher
keyless = record { begun = begun_with 0 0 }
