use Rattle.std.proofs.Common.{◌≤◌, arith, length, map}
use Rattle.std.proofs.lemmas.List.{length-map}
use Rattle.clap.specs.Lexer.{usize_max}
use Rattle.amihunk.proofs.CommandLineAnswerLemmas.{asks, asks_refused, asks_version}
use Rattle.amihunk.proofs.CommandLinePlainLemmas.{calls-brief, calls-check, calls-compare, calls-copy, calls-image, calls-link, calls-load, calls-names, calls-normal, calls-show, calls-survey}
use Rattle.amihunk.proofs.command_line.read_words.Goals as goal

pub returns : goal.returns
returns g c =
    let words = map g.S.AsStr.text c.args.words.now in
    let request = c.request_for.result in
    let fits : length (map g.S.AsStr.text c.args.words.now) ≤ usize_max = rw length-map (omega (arith, c.well_formed.1.0)) in
    let answer = c.request_for.ensures in
    record {
      answer = answer;
      link = λ program options out map_file files is_line plain_out plain_map some plain.
          asks words _ _ request fits answer is_line (calls-link program options out map_file files plain_out plain_map some plain) (λ e. cc);
      brief = λ program options out map_file files is_line plain_out plain_map some plain.
          asks words _ _ request fits answer is_line (calls-brief program options out map_file files plain_out plain_map some plain) (λ e. cc);
      load = λ program source text file is_line plain_value plain.
          asks words _ _ request fits answer is_line (λ _. calls-load program source text file plain_value plain) (λ e. cc);
      image = λ program source form files is_line plain_value some plain.
          asks words _ _ request fits answer is_line (calls-image program source form files plain_value some plain) (λ e. cc);
      check = λ program file is_line plain. asks words _ _ request fits answer is_line (λ _. calls-check program file plain) (λ e. cc);
      show = λ program text file is_line plain. asks words _ _ request fits answer is_line (calls-show program text file plain) (λ e. cc);
      names = λ program files is_line some plain. asks words _ _ request fits answer is_line (calls-names program files some plain) (λ e. cc);
      survey = λ program files is_line some plain. asks words _ _ request fits answer is_line (calls-survey program files some plain) (λ e. cc);
      copy = λ program options out file is_line plain_out plain.
          asks words _ _ request fits answer is_line (λ _. calls-copy program options out file plain_out plain) (λ e. cc);
      normal = λ program out file is_line plain_out plain.
          asks words _ _ request fits answer is_line (λ _. calls-normal program out file plain_out plain) (λ e. cc);
      compare = λ program with_symbols first second is_line plain_first plain_second.
          asks words _ _ request fits answer is_line (λ _. calls-compare program with_symbols first second plain_first plain_second) (λ e. cc);
      version = asks_version words request answer;
      refused = asks_refused words request answer;
    }
