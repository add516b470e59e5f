use Rattle.std.proofs.Common.{ℕ, List, ◌++◌, take}
use Rattle.hunk_addresses.specs.BasesFile.{StandsFor}
use Rattle.hunk_addresses.proofs.bases_file.FoundBases.feed.Given as goal

abbrev pub invariant-loop-byte : goal.invariant-loop-byte
invariant-loop-byte g l = (bytes : List ℕ) → StandsFor l.fn.self.bases.items l.fn.self.digits bytes
    → StandsFor l.self.bases.items l.self.digits (bytes ++ take l.byte-index l.piece)
