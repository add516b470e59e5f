use Rattle.hunk_words.proofs.FirstOffenceLemmas.{offends, offends-at, too-long}
use Rattle.hunk_words.proofs.laws.machine_stops_at_offence.Goals as goal

pub returns-clause-front : goal.returns-clause-front
returns-clause-front c = λ kind ws p r longs short h. offends kind ws p r longs short h

pub returns-clause-offence : goal.returns-clause-offence
returns-clause-offence c = λ kind ws p r longs short h. offends-at kind ws p r longs short h

pub returns-clause-long : goal.returns-clause-long
returns-clause-long c = λ kind front behind bad d longs long h. too-long kind front behind bad d longs long h
