-- The sites of the short block come first.
use Rattle.std.proofs.Common.{◌≡◌, ◌+◌, ◌≤◌, ◌^◌, ◌∙◌, ℕ, length, take, drop, ap, sym, subst, arith}
use Rattle.std.proofs.lemmas.List.{length-drop}
use Rattle.std.proofs.lemmas.List.Elements.{All-drop}
use Rattle.std.specs.List.{All}
use Rattle.hunk_base.specs.Text.{Puts}
use Rattle.hunk_base.proofs.TextLemmas.{Puts-then}
use Rattle.hunk_loadfile.specs.LoadForm.{long_sites, short_sites}
use Rattle.hunk_loadfile.specs.RelocationWriter.{block_bytes}
use Rattle.hunk_loadfile.specs.declared.number_width.NumberWidth.TheVariants.{Word, Longword}
use Rattle.hunk_loadfile.proofs.LoadFormLemmas.{length-both}
use Rattle.hunk_loadfile.proofs.OneTargetWriterLemmas.{long-taken, short-taken}
use Rattle.hunk_loadfile.proofs.one_target_writer.write_to_one_target.Goals as goal

pub write_only_group-requires-clause-few : goal.write_only_group-requires-clause-few
write_only_group-requires-clause-few g c = omega (arith, c.requires.few, c.block_counts-short.ensures.short, length-both c.args.form c.args.sites.now.entries)

pub write_only_group-requires-clause-enough : goal.write_only_group-requires-clause-enough
write_only_group-requires-clause-enough g c =
    omega (arith, ap length c.walk-walk.ensures.rest, c.block_counts-short.ensures.short, length-both c.args.form c.args.sites.now.entries)

pub write_only_group-requires-2-clause-few : goal.write_only_group-requires-2-clause-few
write_only_group-requires-2-clause-few g c = omega (arith, c.requires.few, c.block_counts-short.ensures.long, length-both c.args.form c.args.sites.now.entries)

pub write_only_group-requires-2-clause-enough : goal.write_only_group-requires-2-clause-enough
write_only_group-requires-2-clause-enough g c =
    let short = c.block_counts-short.result.0 in
    omega (
      arith,
      ap length c.write_only_group.ensures.rest,
      length-drop short c.walk-walk.result,
      ap length c.walk-walk.ensures.rest,
      c.block_counts-short.ensures.short,
      c.block_counts-short.ensures.long,
      length-both c.args.form c.args.sites.now.entries,
    )

pub returns : goal.returns
returns g c = λ count below.
    let taken = g.W.Sink.taken in
    let failed = g.W.Sink.failed in
    let form = c.args.form in
    let entries = c.args.sites.now.entries in
    let short = c.block_counts-short.result.0 in
    let long = c.block_counts-short.result.1 in
    let walk = c.walk-walk.result in
    let Same = λ (site : ℕ × ℕ). site.1 ≡ c.args.target in
    let all : All Same walk = subst (All Same) (sym c.walk-walk.ensures.rest) c.requires.same in
    let left : All Same c.write_only_group.new.walk = subst (All Same) (sym c.write_only_group.ensures.rest) (All-drop Same short walk all) in
    let first : take short walk ≡ short_sites form entries =
    ap (take short) c.walk-walk.ensures.rest ∙ short-taken form c.args.sites.now.limit entries c.requires.apart short c.block_counts-short.ensures.short in
    let second : take long c.write_only_group.new.walk ≡ long_sites form entries =
    ap (take long) (c.write_only_group.ensures.rest ∙ ap (drop short) c.walk-walk.ensures.rest)
    ∙ long-taken form c.args.sites.now.limit entries c.requires.apart short c.block_counts-short.ensures.short long c.block_counts-short.ensures.long in
    let one = subst (λ sites. Puts taken failed c.args.text.now c.write_only_group.new.text (block_bytes Word count sites)) first (c.write_only_group.ensures.wrote count below all) in
    let other = subst (λ sites. Puts taken failed c.write_only_group.new.text c.write_only_group-2.new.text (block_bytes Longword count sites)) second (c.write_only_group-2.ensures.wrote count below left) in
    Puts-then taken failed one other
