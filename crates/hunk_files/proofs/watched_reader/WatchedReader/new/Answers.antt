-- Nothing was taken.
use Rattle.hunk_files.proofs.watched_reader.WatchedReader.new.Goals as goal

pub returns : goal.returns
returns g c = record {
  held = λ none. c.new.ensures;
  words = record {
    good = λ none. record { none = c.new-2.ensures.none; core = c.new-2.ensures.stands; watcher = c.requires.shown };
    faulty = λ fault is. absurd cc;
  };
}
