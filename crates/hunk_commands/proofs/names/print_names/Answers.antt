-- The list is that of the files that were read, as far as the output took it.
use Rattle.std.proofs.Common.{inl, inr, refl, length, subst, sym, IsTrue, arith}
use Rattle.std.specs.Io.KnownBytes.{Appends}
use Rattle.std.proofs.KnownBytes.{Appends-kept, Keeps-refl}
use Rattle.std.proofs.lemmas.List.{take_all}
use Rattle.std.proofs.lemmas.Result.{err_from_is_err_and}
use Rattle.hunk_tool.specs.Inputs.{file_names}
use Rattle.hunk_origins.specs.NamedFiles.{AreNamedFiles}
use Rattle.hunk_origins.specs.Names.{names_text}
use Rattle.hunk_store.specs.Output.{printed_of}
use Rattle.hunk_store.proofs.InputsLemmas.{OfWholeFiles-weaker}
use Rattle.hunk_commands.specs.Names.{IsListCutShort, IsNamesFailure}
use Rattle.hunk_commands.proofs.PrintingLemmas.{not_flushed}
use Rattle.hunk_commands.proofs.names.print_names.Goals as goal

pub returns-in_err-named-clause-err : goal.returns-in_err-named-clause-err
returns-in_err-named-clause-err g c =
    let p = err_from_is_err_and c.from_residual.result c.from_residual.ensures.1 in
    rw (p.1, p.2) (inl (c.in_err-named.ensures.err, Keeps-refl (g.O.Sink.taken c.args.output.now)))

pub returns-clause-err : goal.returns-clause-err
returns-clause-err g c =
    let contents = g.S.FileSystem.content c.args.store.now in
    let files = file_names c.args.files.now in
    let printed = printed_of g.O.Sink.taken g.O.Sink.failed g.O.Output.waiting c.args.output.now c.flush.new.output in
    let named = c.in_ok-named.named in
    let entries = c.in-Ok.names in
    let text = names_text entries in
    let taken : Appends printed.old printed.new text = Appends-kept printed.old (g.O.Sink.taken c.write_list.new.writer) printed.new text c.in-Ok-write_list.ensures.0 c.flush.ensures.same in
    let cut = OfWholeFiles-weaker contents files (AreNamedFiles named) (IsListCutShort printed.old printed.new) (λ bytes are. record {
      entries = entries;
      is_list = record { named = named; are_read = are; sorted = c.in-Ok.ensures };
      written = length text;
      front = record { within = omega arith; taken = subst (Appends printed.old printed.new) (sym (take_all (length text) text (omega arith))) taken };
    }) c.in_ok-named.ensures.ok in
    not_flushed c.flush.result (IsTrue (g.O.Sink.failed c.flush.new.output)) (IsNamesFailure contents files printed) (λ failed. inr (refl, cut, failed)) c.flush.ensures.failed c.flush.ensures.err
