-- What a file of the operating system has left, and what it saw.
use Rattle.std.specs.Prelude.{refl, ℕ, List, [], Bool, true, false, IsTrue, Option, Some, None}
use Rattle.std.specs.Io.KnownBytes.{IsAtEnd}
use Rattle.hunk_store.specs.declared.system_file.SystemFile.{SystemFile}

-- the bytes that are left in it, if they are known: none once it has been read to its end
abbrev pub left_of : {F : Type 0} → (F → Option (List ℕ)) → Option F → Option (List ℕ)
left_of remaining (Some file) = remaining file
left_of remaining None = Some []

abbrev pub left_in : {F : Type 0} → (F → Option (List ℕ)) → SystemFile F → Option (List ℕ)
left_in remaining file = left_of remaining file.file

-- it has been read to its end
abbrev pub is_closed : {F : Type 0} → Option F → Bool
is_closed (Some file) = false
is_closed None = true

abbrev pub has_ended : {F : Type 0} → SystemFile F → Bool
has_ended file = is_closed file.file

-- a read of it failed
abbrev pub has_failed : {F : Type 0} → SystemFile F → Bool
has_failed file = file.failed

-- then it has no byte left
closed_at_end : {F : Type 0} (remaining : F → Option (List ℕ)) (file : Option F) → IsTrue (is_closed file) → IsAtEnd (left_of remaining file)
closed_at_end remaining (Some file) is = cc
closed_at_end remaining None is = refl

pub at_end : {F : Type 0} (remaining : F → Option (List ℕ)) (file : SystemFile F) → IsTrue (has_ended file) → IsAtEnd (left_in remaining file)
at_end remaining file is = closed_at_end remaining file.file is
