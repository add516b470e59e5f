use Rattle.std.proofs.Common.{map, subst, sym}
use Rattle.clap.specs.Words.{kind_of}
use Rattle.amihunk.specs.Call.{meaning}
use Rattle.amihunk.specs.CommandLine.{IsWhole}
use Rattle.amihunk.proofs.CommandLineLemmas.{whole_where_faultless}
use Rattle.amihunk.proofs.CommandLineAnswerLemmas.{asked_by_kind, asked_by_result}
use Rattle.amihunk.proofs.command_line.request_for.Goals as goal

pub request_of-requires : goal.request_of-requires
request_of-requires g c =
    subst IsWhole (sym c.in-Ok.ensures.rows) (whole_where_faultless (map g.S.AsStr.text c.args.words.now) c.in-Ok.ensures.fails)

pub returns-in-Ok : goal.returns-in-Ok
returns-in-Ok g c =
    asked_by_result (map g.S.AsStr.text c.args.words.now) _ c.request_of.result c.unwrap_or.result c.in-Ok.ensures.fails c.in-Ok.ensures.rows c.request_of.ensures c.unwrap_or.ensures

pub returns-in-Err : goal.returns-in-Err
returns-in-Err g c = asked_by_kind (map g.S.AsStr.text c.args.words.now) (meaning c.answer_to.result) (kind_of c.in-Err.error) c.in-Err.ensures.fails c.answer_to.ensures
