-- part by part: over the whole, the tactics find no proof
use Rattle.std.proofs.Common.{[], refl, sym, ap, subst}
use Rattle.hunk_words.specs.PartialHunk.{HoldsSites}
use Rattle.hunk_words.proofs.PartialHunkLemmas.{HoldsSites-initial}
use Rattle.hunk_loadfile.proofs.open_hunk.OpenHunk.new.Goals as goal

pub returns : goal.returns
returns g c =
    let partial = c.new.ensures in
    let debug_info = c.new-2.ensures in
    record {
      kind = refl;
      content = ap (λ p. p.content) partial;
      sites = ap (λ p. p.sites.entries) partial;
      holds = subst (HoldsSites c.args.limit []) (sym partial) (HoldsSites-initial c.args.limit);
      words = ap (λ p. p.in_content) partial;
      symbols = ap (λ d. d.symbols) debug_info;
      debugs = ap (λ d. d.debugs) debug_info;
    }
