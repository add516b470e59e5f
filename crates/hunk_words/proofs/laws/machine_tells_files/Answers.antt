use Rattle.hunk_words.proofs.FilesReadingLemmas.{complete-file, file-complete}
use Rattle.hunk_words.proofs.FirstOffenceLemmas.{ends-early}
use Rattle.hunk_words.proofs.laws.machine_tells_files.Goals as goal

pub returns-clause-file : goal.returns-clause-file
returns-clause-file c = λ kind ws d longs short h. (complete-file kind ws d longs short h, file-complete kind ws d longs h)

pub returns-clause-early : goal.returns-clause-early
returns-clause-early c = λ kind ws rest d longs short h not. ends-early kind ws rest d longs short h not
