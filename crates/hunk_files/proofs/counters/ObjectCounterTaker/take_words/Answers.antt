-- It holds nothing of a word.
use Rattle.hunk_base.specs.Longwords.{longwords}
use Rattle.hunk_files.proofs.CountersLemmas.{object-words}
use Rattle.hunk_files.proofs.counters.ObjectCounterTaker.take_words.Goals as goal

pub returns-clause-takes : goal.returns-clause-takes
returns-clause-takes g c = λ told stands few. object-words c.args.self.now told (longwords c.args._bytes.now) few stands
