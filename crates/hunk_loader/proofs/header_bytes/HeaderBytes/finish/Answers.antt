-- A header is a valid prefix and no file.
use Rattle.hunk_words.specs.declared.event.FileKind.TheVariants.{Load}
use Rattle.hunk_words.proofs.DecoderLemmas.{StandsFor-front}
use Rattle.hunk_loader.specs.ImageBuilder.{StandsFor as BuilderStandsFor}
use Rattle.hunk_loader.proofs.HeaderBytesLemmas.{prefix-ends-early}
use Rattle.hunk_loader.proofs.HeaderHunksLemmas.{header-no-file}
use Rattle.hunk_loader.proofs.header_bytes.HeaderBytes.finish.Goals as goal

pub unreachable-requires : goal.unreachable-requires
unreachable-requires g c =
    let bytes = c.args.self.bytes.items in
    let file = (c.in-Ok.ensures.answer bytes c.requires.holds.stands).1 in
    header-no-file bytes c.requires.within (record { tree = file.tree; is_file = file.is_file })

pub returns-in-Err-Fault : goal.returns-in-Err-Fault
returns-in-Err-Fault g c =
    let bytes = c.args.self.bytes.items in
    let valid = StandsFor-front Load BuilderStandsFor c.args.self.decoder bytes c.requires.holds.none c.requires.holds.stands in
    let first = rw c.in-Err-Fault.field-0-is at (c.in-Err-Fault.ensures.answer bytes c.requires.holds.stands) in
    prefix-ends-early _ _ _ _ valid first
