-- part by part, so that it does not depend on what a map of sites is made of
use Rattle.std.proofs.Common.{[], refl, sym, subst, arith}
use Rattle.hunk_words.specs.PartialHunk.{HoldsSites}
use Rattle.hunk_words.proofs.PartialHunkLemmas.{HoldsSites-initial}
use Rattle.hunk_files.proofs.counters.LoadCounter.new.Goals as goal

pub returns : goal.returns
returns g c = record {
  holds = record {
    same_sizes = c.new.ensures.items;
    same_ended = refl;
    holds_hunk = subst (HoldsSites 0 []) (sym c.new-2.ensures) (HoldsSites-initial 0);
  };
  few = omega arith;
}
