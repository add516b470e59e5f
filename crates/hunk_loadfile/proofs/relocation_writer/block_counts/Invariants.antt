-- Those counted so far and those among the remaining sites are all sites of each block.
use Rattle.std.proofs.Common.{◌≡◌, ◌+◌, length}
use Rattle.hunk_loadfile.specs.LoadForm.{long_sites, short_sites}
use Rattle.hunk_loadfile.proofs.relocation_writer.block_counts.Given as goal

abbrev pub invariant-loop-offset : goal.invariant-loop-offset
invariant-loop-offset g l = record {
  short : l.short + length (short_sites l.form l.offset-iterator) ≡ length (short_sites l.form l.sites.entries);
  long : l.long + length (long_sites l.form l.offset-iterator) ≡ length (long_sites l.form l.sites.entries);
}
