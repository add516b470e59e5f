-- part by part: over the whole, the tactics find the proof only slowly
use Rattle.std.proofs.Common.{[], refl, sym, ap, subst}
use Rattle.hunk_words.specs.PartialHunk.{HoldsSites}
use Rattle.hunk_words.proofs.PartialHunkLemmas.{HoldsSites-initial}
use Rattle.hunk_objects.proofs.open_hunk.OpenHunk.new.Goals as goal

pub returns : goal.returns
returns g c =
    let partial = c.new-2.ensures in
    let debug_info = c.new-5.ensures in
    record {
      name = c.new.ensures;
      kind = refl;
      memory = refl;
      size = refl;
      content = ap (λ p. p.content) partial;
      sites = ap (λ p. p.sites.entries) partial;
      holds = subst (HoldsSites c.args.limit []) (sym partial) (HoldsSites-initial c.args.limit);
      words = ap (λ p. p.in_content) partial;
      references = c.new-3.ensures.items;
      definitions = c.new-4.ensures.items;
      symbols = ap (λ d. d.symbols) debug_info;
      debugs = ap (λ d. d.debugs) debug_info;
    }
