use Rattle.hunk_words.proofs.FirstOffenceLemmas.{file-or-offence, file-no-offence, first-one}
use Rattle.hunk_words.proofs.laws.file_or_first_offence.Goals as goal

pub returns-clause-either : goal.returns-clause-either
returns-clause-either c = λ kind ws rest longs. file-or-offence kind ws rest longs

pub returns-clause-never_both : goal.returns-clause-never_both
returns-clause-never_both c = λ kind ws place r file first. file-no-offence kind ws place r file first

pub returns-clause-one : goal.returns-clause-one
returns-clause-one c = λ kind ws rest p q r s first second. first-one kind ws rest p q r s first second
