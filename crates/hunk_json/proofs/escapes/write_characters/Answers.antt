-- One more character.
use Rattle.std.proofs.Common.{◌∙◌, [], ◌∷◌, ◌++◌, ap, append-nil, sym}
use Rattle.std.specs.List.{flat_map}
use Rattle.std.proofs.lemmas.Grind.{flat_map-append}
use Rattle.std.proofs.lemmas.List.{nil_from_length}
use Rattle.hunk_base.proofs.TextLemmas.{◌⨾◌, Puts-as, Puts-nothing}
use Rattle.hunk_json.proofs.EscapesLemmas.{in_string, spelt-all, spelt-more}
use Rattle.hunk_json.proofs.escapes.write_characters.Goals as goal

pub loop-character-init : goal.loop-character-init
loop-character-init g c = record {
  whole = ap (λ iterator. iterator.rest.now) c.into_iter-character-iterator.ensures.into_iter_gives ∙ c.chars-character-items.ensures.rest;
  puts = Puts-nothing g.W.Sink.taken g.W.Sink.failed c.args.text.now;
}

pub loop-character-preserved : goal.loop-character-preserved
loop-character-preserved g c =
    let inv = c.loop-character.invariant in
    let part = in_string c.args.form in
    let done = c.loop-character.yielded in
    let character = c.in-Some.character in
    let parts = flat_map-append part done (character ∷ []) ∙ ap (λ last. flat_map part done ++ last) (append-nil (part character)) in
    record {
      whole = spelt-more done character _ _ _ inv.whole c.in-Some.ensures.steps.0;
      puts = Puts-as (sym parts) (inv.puts ⨾ c.write_character.ensures);
    }

pub returns : goal.returns
returns g c =
    let inv = c.loop-character.invariant in
    Puts-as (spelt-all c.args.form c.loop-character.yielded _ c.args.string.now c.utf8.string inv.whole (nil_from_length _ c.in-None.ensures.steps.0.0)) inv.puts
