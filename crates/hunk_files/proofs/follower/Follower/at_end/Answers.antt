-- A valid prefix is a file, or offends at its end.
use Rattle.std.proofs.Common.{refl, sym, subst, ◌∙◌, length}
use Rattle.hunk_words.specs.FirstOffence.{FirstOffence}
use Rattle.hunk_base.specs.Longwords.{longwords, unfinished}
use Rattle.hunk_base.proofs.LongwordsLemmas.{list-none}
use Rattle.hunk_files.proofs.FollowerLemmas.{Explains-of, front-valid, offends-end}
use Rattle.hunk_files.proofs.follower.Follower.at_end.Goals as goal
use Rattle.hunk_files.proofs.follower.Follower.at_end.Goals.{in-Ok, in-Err-Fault, in-Err-OutOfMemory}

pub returns-clause-ok : goal.returns-clause-ok
returns-clause-ok g c = elim c.match-end.branch [
  | in-Ok w ↦ rw w.result-is (λ bytes stands.
      let rest = c.rest-rest.ensures.rest bytes (stands.held c.requires) in
      let told = rw w.in-Ok.is at c.end.ensures.answer (longwords bytes) stands.words.core in
      (list-none (unfinished bytes) (sym rest ∙ told.0), record { tree = told.1.tree; is_file = told.1.is_file }))
  | in-Err-Fault w ↦ rw w.result-is (λ bytes stands.
      let kind = g.T.Taker.KIND in
      let ws = longwords bytes in
      let fault = w.in-Err-Fault.fault in
      let rest = c.rest-rest.ensures.rest bytes (stands.held c.requires) in
      let answered = rw (w.in-Err-Fault.is, w.in-Err-Fault.field-0-is) at c.end.ensures.answer ws stands.words.core in
      let offends = subst (λ n. FirstOffence kind ws n fault.place fault.reason) rest answered in
      Explains-of kind bytes w.new.result fault ws w.new.ensures.fault w.new.ensures.offset offends
      (offends-end kind ws (length (unfinished bytes)) fault.place fault.reason (front-valid kind g.T.Taker.stands_for c.args.self ws c.requires stands.words) offends)
      (rw w.new.ensures.found (refl, rest)) (rw w.new.ensures.due (c.due-due.ensures.due ws c.requires stands.words.core)) (rw w.new.ensures.path (stands.words.path c.requires)))
  | in-Err-OutOfMemory w ↦ rw w.result-is tt
]
