-- The digest of what a load file means.
use Rattle.std.specs.Prelude.{ℕ, List, Bool, if◌then◌else◌, Option, Some, None}
use Rattle.sha2.specs.Sha256.{sha256}
use Rattle.hunk_loadfile.specs.LoadHunk.{FileHunk}
use Rattle.hunk_tool.specs.Copy.{copied_bytes}
use Rattle.hunk_tool.specs.declared.copy.CopyForm.TheVariants.{Normal}

-- the SHA-256 digest of the bytes of the normal form of the load file of these hunks
abbrev pub digest_of : List FileHunk → List ℕ
digest_of hunks = sha256 (copied_bytes Normal hunks)

-- if it is asked for
abbrev pub digest_if : (digest : Bool) → List FileHunk → Option (List ℕ)
digest_if digest hunks = if digest then Some (digest_of hunks) else None
