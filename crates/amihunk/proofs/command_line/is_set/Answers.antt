use Rattle.clap.specs.Words.{found_of}
use Rattle.amihunk.proofs.CommandLineUseLemmas.{flag_value}
use Rattle.amihunk.proofs.command_line.is_set.Goals as goal

pub returns : goal.returns
returns c = flag_value (found_of c.args.values.now) c.args.id.now c.get_flag.result c.requires c.get_flag.ensures.value c.get_flag.ensures.other
