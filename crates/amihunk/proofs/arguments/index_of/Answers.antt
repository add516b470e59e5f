use Rattle.std.proofs.Common.{◌≡◌, ◌∙◌, drop}
use Rattle.std.proofs.lemmas.Fmt.{parse-decimal}
use Rattle.amihunk.proofs.ArgumentsLemmas.{digits_are_text, digits_of, no_error, rest_of, same_ok}
use Rattle.amihunk.proofs.arguments.index_of.Goals as goal

pub returns-in-Ok-parse : goal.returns-in-Ok-parse
returns-in-Ok-parse c index low is =
    let cut : c.in-Ok.digits.now ≡ drop 1 c.args.word.now = c.in-Ok.ensures.cases.0 ∙ rest_of c.args.word.now in
    let read = parse-decimal 64 index c.in-Ok.digits.now c.parse.result low low (cut ∙ digits_of c.args.word.now index is) c.parse.ensures.value.0 in
    same_ok c.parse.result c.in-Ok-parse.index index c.in-Ok-parse.is read

pub returns-in-Err-parse : goal.returns-in-Err-parse
returns-in-Err-parse c index low is =
    let cut : c.in-Ok.digits.now ≡ drop 1 c.args.word.now = c.in-Ok.ensures.cases.0 ∙ rest_of c.args.word.now in
    let read = parse-decimal 64 index c.in-Ok.digits.now c.parse.result low low (cut ∙ digits_of c.args.word.now index is) c.parse.ensures.value.0 in
    absurd (no_error c.parse.result c.in-Err-parse.field-0 index c.in-Err-parse.is read)

pub returns-in-Err : goal.returns-in-Err
returns-in-Err c index low is = absurd (c.in-Err.ensures.cases.0 (digits_are_text c.args.word.now _ index low (rest_of c.args.word.now) is))
