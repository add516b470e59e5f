use Rattle.std.proofs.lemmas.Result.{IfOk-weaker}
use Rattle.clap.specs.Words.{subcommand_rows_of}
use Rattle.amihunk.specs.Call.{meaning}
use Rattle.amihunk.specs.CommandLine.{written_call}
use Rattle.amihunk.proofs.StandardInputLemmas.{made_found}
use Rattle.amihunk.proofs.command_line.request_of.Goals as goal

pub returns : goal.returns
returns c =
    let written = c.in_ok-written_request.field-0 in
    IfOk-weaker c.with_standard_input.result _ _ (λ made is. made_found (written_call (subcommand_rows_of c.args.matches.now)) (meaning written) (meaning made) c.in_ok-written_request.ensures is) c.with_standard_input.ensures
