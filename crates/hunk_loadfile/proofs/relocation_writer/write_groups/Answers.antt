-- Each group is the next one of the block.
use Rattle.std.proofs.Common.{◌≡◌, ◌<◌, ◌∙◌, [], ◌++◌, ℕ, length, refl, ap, subst, append_assoc, arith, rules, tests}
use Rattle.std.proofs.lemmas.List.{length-append}
use Rattle.hunk_base.specs.Text.{Puts}
use Rattle.hunk_base.proofs.TextLemmas.{Puts-nothing}
use Rattle.hunk_loadfile.specs.NumberWidth.{bytes_in}
use Rattle.hunk_loadfile.specs.WrittenForm.{groups_words}
use Rattle.hunk_loadfile.proofs.PutsLemmas.{All-behind, Puts-numbers}
use Rattle.hunk_loadfile.proofs.RelocationWriterLemmas.{group-length, groups-all, groups-around, length-words_of, words_of}
use Rattle.hunk_loadfile.proofs.relocation_writer.write_groups.Goals as goal

pub groups-init : goal.groups-init
groups-init g c = record {
  rise = c.requires.rise;
  room = omega arith;
  below = λ count all. all;
  words = [];
  counts = refl;
  whole = λ count all. refl;
  puts = Puts-nothing g.W.Sink.taken g.W.Sink.failed c.args.text.now;
}

pub overflow_add-numbers : goal.overflow_add-numbers
overflow_add-numbers g c =
    let is = c.split_group.ensures in
    omega (arith, c.groups.invariant.room, c.requires.few, group-length _ _ _ _ is, is.some)

pub groups-preserved : goal.groups-preserved
groups-preserved g c =
    let inv = c.groups.invariant in
    let is = c.split_group.ensures in
    let behind = c.split_group.result.1.now in
    let next = words_of is in
    record {
      rise = is.rise;
      room = omega (arith, inv.room, group-length _ _ _ _ is, is.some);
      below = λ count all. All-behind (λ (pair : ℕ × ℕ). pair.1 < count) _ behind _ is.parts (inv.below count all);
      words = inv.words ++ next;
      counts = omega (arith, inv.counts, length-append inv.words next, length-words_of _ _ _ _ is);
      whole = λ count all. append_assoc inv.words next (groups_words count behind) ∙ groups-around _ _ _ _ c.args.pairs.now is inv.words count (inv.below count all) (inv.whole count all);
      puts = Puts-numbers g.W.Sink.taken g.W.Sink.failed c.args.width inv.words next inv.puts c.write_group.ensures;
    }

pub returns-clause-wrote : goal.returns-clause-wrote
returns-clause-wrote g c = λ count all.
    let inv = c.groups.invariant in
    let none : length c.groups.rest.now ≡ 0 = first_of (omega arith, search (rules, tests)) in
    subst (λ words. Puts g.W.Sink.taken g.W.Sink.failed c.args.text.now c.groups.text (bytes_in c.args.width words)) (groups-all count inv.words _ c.args.pairs.now none (inv.whole count all)) inv.puts

pub returns-clause-counts : goal.returns-clause-counts
returns-clause-counts g c = λ count all.
    let inv = c.groups.invariant in
    let none : length c.groups.rest.now ≡ 0 = first_of (omega arith, search (rules, tests)) in
    inv.counts ∙ ap length (groups-all count inv.words _ c.args.pairs.now none (inv.whole count all))
