-- The pairs so far and the remaining sites are all sites of their blocks. Their offsets have 32 bits.
use Rattle.std.proofs.Common.{◌≡◌, ◌<◌, ◌^◌, ◌++◌, ℕ}
use Rattle.std.specs.List.{All}
use Rattle.hunk_loadfile.specs.LoadForm.{long_sites, short_sites}
use Rattle.hunk_loadfile.proofs.relocation_writer.by_target.Given as goal

abbrev pub invariant-loop-offset : goal.invariant-loop-offset
invariant-loop-offset g l = record {
  short : l.short.items ++ short_sites l.form l.offset-iterator ≡ short_sites l.form l.sites.entries;
  long : l.long.items ++ long_sites l.form l.offset-iterator ≡ long_sites l.form l.sites.entries;
  typed_short : All (λ (pair : ℕ × ℕ). pair.0 < 2 ^ 32) l.short.items;
  typed_long : All (λ (pair : ℕ × ℕ). pair.0 < 2 ^ 32) l.long.items;
}
