use Rattle.hunk_loadfile.proofs.OpenHunkLemmas.{takes-word}
use Rattle.hunk_loadfile.proofs.open_hunk.OpenHunk.add_word.Goals as goal

pub returns : goal.returns
returns g c = takes-word c.args.self.now c.add_word.new.self c.add_word.result c.args.word c.add_word.ensures.adds c.add_word.ensures.refused
