use Rattle.hunk_words.proofs.FilesReadingLemmas.{read-front, front-read}
use Rattle.hunk_words.proofs.laws.machine_reads_prefixes.Goals as goal

pub returns-clause-read : goal.returns-clause-read
returns-clause-read c = λ kind ws d longs short h. read-front kind ws d longs short h

pub returns-clause-front : goal.returns-clause-front
returns-clause-front c = λ kind ws g. let d = front-read kind ws g in (d.0, d.1)
