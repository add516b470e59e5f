-- The numbers are kept in a vector of the kind that has no more than a file may have.
use Rattle.std.proofs.Common.{Some, ap, map, sym, ◌∙◌}
use Rattle.hunk_addresses.proofs.BasesFileLemmas.{numbers-ended}
use Rattle.hunk_addresses.proofs.bases_file.FoundBases.finish.Goals as goal

pub returns-clause-numbers : goal.returns-clause-numbers
returns-clause-numbers g c bytes stands short = record {
  numbers = numbers-ended c.args.self.bases.items c.args.self.digits bytes c.args.self.digits.few stands ∙ ap (map Some) (sym c.in_ok-end_part.ensures.ends);
  few = c.end_part.new.self.few;
  short = short;
}
