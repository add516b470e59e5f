-- Laws about surveys.
use Rattle.std.specs.Prelude.{◌≡◌, ◌≢◌, ◌==◌, ◌||◌, ℕ, List, [], ◌∷◌, Bool, true, false}
use Rattle.sha2.specs.Sha256.{sha256}
use Rattle.hunk_base.specs.Longwords.{longwords}
use Rattle.hunk_base.specs.declared.fault.Fault.{Fault}
use Rattle.hunk_files.specs.FileDecoder.{IsRefused}
use Rattle.hunk_loadfile.specs.LoadHunk.{FileHunk}
use Rattle.hunk_loadfile.specs.Meaning.{MeansTheSame}
use Rattle.hunk_loadfile.specs.Rules.{IsLoadFile}
use Rattle.hunk_words.specs.Kinds.{low}
use Rattle.hunk_tool.specs.Compare.{is_same}
use Rattle.hunk_tool.specs.Copy.{copied_bytes}
use Rattle.hunk_tool.specs.declared.copy.CopyForm.TheVariants.{Normal}
use Rattle.hunk_survey.specs.Digest.{digest_of}
use Rattle.hunk_survey.specs.Finding.{begins_hunk_file}

-- ---- digests

-- Load files between which no difference is found, with or without symbols, have one digest.
abbrev pub SameHaveOneDigest : Type 0
SameHaveOneDigest =
    (with_symbols : Bool) (first second : List FileHunk) → IsLoadFile first → IsLoadFile second
    → is_same with_symbols first second ≡ true → digest_of first ≡ digest_of second

-- other bytes with the same digest
abbrev pub Collide : List ℕ → List ℕ → Type 0
Collide one other = (one ≢ other) × (sha256 one ≡ sha256 other)

-- The normal forms of files that differ in what they mean, and yet have one digest, collide.
abbrev pub OneDigestIsCollision : Type 0
OneDigestIsCollision =
    (first second : List FileHunk) → IsLoadFile first → IsLoadFile second
    → digest_of first ≡ digest_of second → (MeansTheSame first second → ⊥)
    → Collide (copied_bytes Normal first) (copied_bytes Normal second)

-- ---- files that are no hunk files

-- The first longword is there, and has the type with which a program unit (999, HUNK_UNIT of doshunks.h) or a load
-- file (1011, HUNK_HEADER) begins.
abbrev pub begins_so : List ℕ → Bool
begins_so [] = false
begins_so (first ∷ more) = low first == 999 || low first == 1011

-- A file that is refused is told as a hunk file exactly if it begins so.
abbrev pub RefusedBeginsSo : Type 0
RefusedBeginsSo = (fault : Fault) (ended : Bool) (bytes : List ℕ) → IsRefused fault ended bytes → begins_hunk_file fault ≡ begins_so (longwords bytes)
