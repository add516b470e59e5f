-- A site is left for each offset.
use Rattle.std.proofs.Common.{◌≡◌, ◌∷◌, ◌+◌, ◌<◌, ◌∙◌, ℕ, drop, length, take, ap, sym, arith}
use Rattle.std.proofs.lemmas.List.{length-drop}
use Rattle.hunk_loadfile.proofs.OneTargetWriterLemmas.{next-left, offset-taken}
use Rattle.hunk_loadfile.proofs.one_target_writer.take_offsets.Goals.{in-Some, in_default}
use Rattle.hunk_loadfile.proofs.one_target_writer.take_offsets.Goals as goal

pub loop-index-preserved : goal.loop-index-preserved
loop-index-preserved g c =
    let inv = c.loop-index.invariant in
    let sites = c.args.walk.now in
    let index = c.loop-index.index in
    let rest = c.next.new.self in
    let within : index < length sites = omega (arith, c.loop-index-test.true, c.requires.enough) in
    elim c.match-next.branch [
      | in-Some w ↦
          let site : ℕ × ℕ = (w.in-Some.offset, w.in-Some.field-0-1.now) in
          let is : drop index sites ≡ site ∷ rest = sym inv.rest ∙ w.in-Some.ensures.steps in
          let room : index < length c.loop-index.offsets = omega (arith, c.loop-index-test.true, inv.room) in
          record {
            room = c.match-next.auto.offsets ∙ inv.room;
            taken = ap (take (index + 1)) w.offsets-is ∙ offset-taken sites rest index site c.loop-index.offsets is within room inv.taken;
            rest = next-left sites rest index site is within;
          }
      | in_default w ↦
          let none : length (drop index sites) ≡ 0 = ap length (sym inv.rest ∙ w.in_default.ensures.steps.0) in
          absurd (omega (arith, none, length-drop index sites, within))
    ]
