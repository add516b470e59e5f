-- The last longword is the next one.
use Rattle.std.proofs.Common.{ap, ◌∙◌, ◌++◌, ◌∷◌, [], if◌then◌else◌}
use Rattle.hunk_words.specs.Kinds.{low}
use Rattle.hunk_lint.specs.Oddity.{is_header_size}
use Rattle.hunk_lint.proofs.watch.Watch.take.Goals as goal

pub returns : goal.returns
returns g c = λ before few is. record {
  begun = c.block_begun-self.ensures before;
  hunk = c.hunk_after-self.ensures before few is.hunk;
  name = c.name_after-self.ensures _ is.name;
  named = c.in_ok-keep_hunk.ensures before is.named;
  sizes = c.in_ok-keep_size.ensures ∙ ap (λ sizes. if is_header_size c.args.due then sizes ++ low c.args.word ∷ [] else sizes) is.sizes;
}
