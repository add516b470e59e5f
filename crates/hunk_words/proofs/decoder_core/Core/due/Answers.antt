-- The machine expects the same.
use Rattle.hunk_words.proofs.DueLemmas.{Behind-dues, Behind-dues_read}
use Rattle.hunk_words.proofs.decoder_core.Core.due.Goals as goal

pub returns-clause-due : goal.returns-clause-due
returns-clause-due g c = λ ws none stands. Behind-dues _ _ c.args.self.now.state ws c.due_of.result (stands.good none) c.due_of.ensures

pub returns-clause-read : goal.returns-clause-read
returns-clause-read g c = λ ws w none stands. Behind-dues_read _ _ c.args.self.now.state ws w c.due_of.result (stands.good none) c.due_of.ensures
