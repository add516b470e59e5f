-- The characters so far were put, and the remaining characters are the rest.
use Rattle.std.proofs.Common.{◌≡◌, ◌++◌}
use Rattle.std.specs.List.{flat_map}
use Rattle.std.specs.Str.{encode_utf8_all}
use Rattle.hunk_base.specs.Text.{Puts}
use Rattle.hunk_json.proofs.EscapesLemmas.{in_string}
use Rattle.hunk_json.proofs.escapes.write_characters.Given as goal

abbrev pub invariant-loop-character : goal.invariant-loop-character
invariant-loop-character g l = record {
  whole : encode_utf8_all l.yielded ++ l.character-iterator.rest.now ≡ l.string;
  puts : Puts g.W.Sink.taken g.W.Sink.failed l.fn.text l.text (flat_map (in_string l.form) l.yielded);
}
