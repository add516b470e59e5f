use Rattle.hunk_words.proofs.PartialHunkLemmas.{HoldsSites-begun}
use Rattle.hunk_files.proofs.counters.begin.Goals as goal

pub returns-then-begin_content-clause-holds : goal.returns-then-begin_content-clause-holds
returns-then-begin_content-clause-holds g c = λ before seen holds.
    HoldsSites-begun c.args.limit before seen _ _ (c.begin_content.ensures.begins c.if-begin_content.true) (c.begin_content.ensures.first.0 c.if-begin_content.true).1 holds
