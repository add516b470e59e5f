-- What has been read so far, of which the numbers are known: at least a byte by each read, and no more than a file may have.
use Rattle.std.proofs.Common.{◌≡◌, ◌≤◌, ◌+◌, ℕ, List, length}
use Rattle.std.specs.Io.KnownBytes.{Consumes}
use Rattle.hunk_addresses.specs.BasesFile.{StandsFor, most_bytes}
use Rattle.hunk_addresses.proofs.bases_file.read_bases.Given as goal

abbrev pub invariant-reads : goal.invariant-reads
invariant-reads g l = record {
  bytes : List ℕ;
  consumed : Consumes (g.R.Source.left l.fn.reader) (g.R.Source.left l.reader) bytes;
  stands : StandsFor l.found.bases.items l.found.digits bytes;
  room_is : length bytes + l.room ≡ most_bytes;
  many : l._number ≤ length bytes;
}
