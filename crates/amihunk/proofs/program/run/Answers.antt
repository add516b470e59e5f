use Rattle.std.proofs.Common.{None, false}
use Rattle.hunk_tool.specs.declared.copy.CopyForm.TheVariants.{Normal, Written}
use Rattle.hunk_commands.specs.Request.{run_between}
use Rattle.amihunk.specs.CommandLine.{no_survey_options}
use Rattle.amihunk.specs.Call.Meaning.{calls, rejection, version}
use Rattle.amihunk.specs.Call.Call.{to_check, to_compare, to_copy, to_image, to_link, to_load, to_names, to_show, to_survey}
use Rattle.amihunk.proofs.ProgramLemmas.{ends_asked}
use Rattle.amihunk.proofs.program.run.Goals as goal

pub returns : goal.returns
returns g c =
    let ends = ends_asked (run_between g.S.FileSystem.content g.O.Sink.taken g.O.Sink.failed g.O.Output.waiting c.args.store.now c.answer.new.store c.args.output.now c.answer.new.output) g.W.Sink.taken g.W.Sink.failed c.args.errors.now c.answer.new.errors in
    let asked = c.read_words-request.ensures in
    let request = c.read_words-request.result in
    let status = c.answer.result in
    record {
      line = record { request = request; asked = asked.answer; ends = c.answer.ensures };
      link = λ program options out map_file files is_line plain_out plain_map some plain.
          ends (calls (to_link out map_file options false false files None)) request status (asked.link program options out map_file files is_line plain_out plain_map some plain) c.answer.ensures;
      brief = λ program options out map_file files is_line plain_out plain_map some plain.
          ends (calls (to_link out map_file options false false files None)) request status (asked.brief program options out map_file files is_line plain_out plain_map some plain) c.answer.ensures;
      load = λ program source text file is_line plain_value plain.
          ends (calls (to_load source text false file)) request status (asked.load program source text file is_line plain_value plain) c.answer.ensures;
      image = λ program source form files is_line plain_value some plain.
          ends (calls (to_image source form false files)) request status (asked.image program source form files is_line plain_value some plain) c.answer.ensures;
      check = λ program file is_line plain. ends (calls (to_check false false file)) request status (asked.check program file is_line plain) c.answer.ensures;
      show = λ program text file is_line plain. ends (calls (to_show text false file)) request status (asked.show program text file is_line plain) c.answer.ensures;
      names = λ program files is_line some plain. ends (calls (to_names files)) request status (asked.names program files is_line some plain) c.answer.ensures;
      survey = λ program files is_line some plain. ends (calls (to_survey no_survey_options files None)) request status (asked.survey program files is_line some plain) c.answer.ensures;
      copy = λ program options out file is_line plain_out plain.
          ends (calls (to_copy out (Written options) false file)) request status (asked.copy program options out file is_line plain_out plain) c.answer.ensures;
      normal = λ program out file is_line plain_out plain.
          ends (calls (to_copy out Normal false file)) request status (asked.normal program out file is_line plain_out plain) c.answer.ensures;
      compare = λ program with_symbols first second is_line plain_first plain_second.
          ends (calls (to_compare with_symbols first second)) request status (asked.compare program with_symbols first second is_line plain_first plain_second) c.answer.ensures;
      version = λ program word is_line is_word. ends version request status (asked.version program word is_line is_word) c.answer.ensures;
      refused = λ program others is_line are. ends rejection request status (asked.refused program others is_line are) c.answer.ensures;
    }
