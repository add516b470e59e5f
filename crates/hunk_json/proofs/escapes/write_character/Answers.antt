-- The character has an escape of JSON's own, or one of these, or none.
use Rattle.std.proofs.Common.{◌∙◌, sym}
use Rattle.std.specs.Char.{encode_utf8}
use Rattle.std.proofs.lemmas.Bool.{cond-false, cond-true, lt-ltb, true≢false}
use Rattle.hunk_base.proofs.TextLemmas.{Puts-as}
use Rattle.hunk_json.specs.Escapes.{is_escaped, unicode_escape}
use Rattle.hunk_json.proofs.EscapesLemmas.{control-told, other-told, short-told}
use Rattle.hunk_json.proofs.escapes.write_character.Goals as goal
use Rattle.hunk_json.proofs.escapes.write_character.Goals.{then-character-lt32, else-character-lt32}

pub returns-in-Some : goal.returns-in-Some
returns-in-Some g c = Puts-as (c.in-Some.ensures.1 ∙ sym (short-told c.args.form c.args.character c.in-Some.ensures.0)) c.put.ensures

pub returns-in-None : goal.returns-in-None
returns-in-None g c =
    let form = c.args.form in
    let character = c.args.character in
    elim c.if-character-lt32.branch [
      | then-character-lt32 w ↦ Puts-as (sym (control-told form character w.if-character-lt32.true c.in-None.ensures)) c.write_unicode_escape.ensures
      | else-character-lt32 w ↦
          let escaped = sym w.is_escaped.ensures ∙ sym w.value-is ∙ c.if-is_escaped.true in
          let told = other-told form character c.ranges.character.0 w.if-character-lt32.false c.in-None.ensures in
          Puts-as (sym (told ∙ cond-true (is_escaped form character) (unicode_escape character) (encode_utf8 character) escaped)) c.write_unicode_escape.ensures
    ]

pub returns-in-None-2 : goal.returns-in-None-2
returns-in-None-2 g c =
    let form = c.args.form in
    let character = c.args.character in
    elim c.if-character-lt32.branch [
      | then-character-lt32 w ↦ absurd (true≢false (sym (lt-ltb character 32 w.if-character-lt32.true) ∙ sym w.value-is ∙ c.if-is_escaped.false))
      | else-character-lt32 w ↦
          let kept = sym w.is_escaped.ensures ∙ sym w.value-is ∙ c.if-is_escaped.false in
          let told = other-told form character c.ranges.character.0 w.if-character-lt32.false c.in-None.ensures in
          let itself = cond-false (is_escaped form character) (unicode_escape character) (encode_utf8 character) kept in
          Puts-as (c.as_bytes.ensures.value ∙ c.encode_utf8.ensures.value ∙ sym (told ∙ itself)) c.put-in-None-2.ensures
    ]
