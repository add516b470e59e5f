-- Each read so far brought bytes, and the decoder took them all.
use Rattle.std.proofs.Common.{◌≡◌, ◌≤◌, ◌<◌, ◌+◌, ◌^◌, ℕ, List, length}
use Rattle.std.specs.Io.KnownBytes.{Consumes}
use Rattle.hunk_base.proofs.streams.read_all.Given as goal

abbrev pub invariant-first : goal.invariant-first
invariant-first g l = record {
  bytes : List ℕ;
  consumed : Consumes (g.R.Source.left l.fn.reader) (g.R.Source.left l.reader) bytes;
  stands : g.D.Feed.stands_for l.decoder bytes;
  given : g.D.Feed.given l.decoder ≡ g.D.Feed.given l.fn.decoder;
}

-- of the later reads each one brought a byte at least
abbrev pub invariant-reads : goal.invariant-reads
invariant-reads g l = record {
  bytes : List ℕ;
  consumed : Consumes (g.R.Source.left l.fn.reader) (g.R.Source.left l.reader) bytes;
  stands : g.D.Feed.stands_for l.decoder bytes;
  given : g.D.Feed.given l.decoder ≡ g.D.Feed.given l.fn.decoder;
  many : l._number ≤ length bytes;
  few : 0 < l._number → length bytes < 2 ^ 30 + 4;
}
