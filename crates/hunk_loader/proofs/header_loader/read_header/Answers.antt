-- The hunks of the header once it is whole.
use Rattle.std.proofs.Common.{◌++◌, drop, length, map, take, ap, ◌∙◌, arith}
use Rattle.hunk_base.specs.Longwords.{longwords}
use Rattle.hunk_words.specs.declared.event.FileKind.TheVariants.{Load}
use Rattle.hunk_words.proofs.DecoderLemmas.{StandsFor-front}
use Rattle.hunk_loader.specs.HeaderHunks.{header_hunk, header_length}
use Rattle.hunk_loader.specs.ImageBuilder.{StandsFor as BuilderStandsFor}
use Rattle.hunk_loader.proofs.header_loader.read_header.Goals as goal

pub returns-in_ok-header_hunks : goal.returns-in_ok-header_hunks
returns-in_ok-header_hunks g c = λ bytes holds less.
    let now = bytes ++ take c.in_ok-taken.taken c.args.piece.now in
    let took = c.in_ok-taken.ensures bytes holds (omega arith) in
    let long = ap length took.1.kept in
    let end = ap (λ bs. header_length (longwords bs)) took.1.kept in
    let hunks = ap (λ bs. map header_hunk (drop 5 (longwords bs))) (c.deref.ensures.value ∙ took.1.kept) in (
      took.0.within,
      took.1,
      record {
        whole = omega (arith, took.0.stops, long, end);
        told = c.in_ok-header_hunks.ensures ∙ hunks;
        begins = StandsFor-front Load BuilderStandsFor c.take.new.self.decoder now took.1.none took.1.stands;
      },
      λ none. let wrong = none in cc,
    )
