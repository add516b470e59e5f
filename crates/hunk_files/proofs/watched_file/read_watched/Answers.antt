-- What was read is a file with that value, whose longwords the watcher was shown.
use Rattle.hunk_files.proofs.WatchedFileLemmas.{HasRead-watched}
use Rattle.hunk_files.proofs.watched_file.read_watched.Goals as goal

pub returns-in-Ok-clause-file : goal.returns-in-Ok-clause-file
returns-in-Ok-clause-file g c = HasRead-watched g.W.Watcher.stands_for c.in-Ok.file _ _ _ c.watched_file.ensures c.in-Ok.ensures.file
