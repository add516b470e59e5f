-- The bases of the loader are those of the file.
use Rattle.std.proofs.Common.{subst}
use Rattle.hunk_uses.specs.Boot.{StageStandsFor}
use Rattle.hunk_uses.proofs.BootLemmas.{finished-from}
use Rattle.hunk_uses.proofs.boot.Boot.finish.Goals as goal

pub returns-in-Loading : goal.returns-in-Loading
returns-in-Loading c = λ bytes stands.
    let loading = subst (λ stage. StageStandsFor c.args.self.first stage bytes) c.in-Loading.is stands in
    finished-from c.args.self.first _ bytes c.finish-in-Loading.result loading.1 ((rw c.in-Loading.loader-is at c.finish-in-Loading.ensures.answer) bytes loading.0)
