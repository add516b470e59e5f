-- Each request was done, or not.
use Rattle.std.proofs.Common.{[], refl, subst, sym}
use Rattle.std.proofs.KnownBytes.{Keeps-refl}
use Rattle.hunk_commands.specs.Request.{Ends, run_between}
use Rattle.hunk_commands.proofs.RequestLemmas.{out_of_memory_told}
use Rattle.hunk_commands.proofs.request.answer.Goals as goal

pub returns-in-Link : goal.returns-in-Link
returns-in-Link g c =
    subst (λ request. Ends (run_between g.S.FileSystem.content g.O.Sink.taken g.O.Sink.failed g.O.Output.waiting c.args.store.now c.answer_link.new.store c.args.output.now c.args.output.now) g.W.Sink.taken g.W.Sink.failed c.args.errors.now c.answer_link.new.errors request c.answer_link.result) (sym c.in-Link.is)
    (rw c.as_slice-files.ensures.value at c.answer_link.ensures, Keeps-refl (g.O.Sink.taken c.args.output.now))

pub returns-in-Image : goal.returns-in-Image
returns-in-Image g c =
    subst (λ request. Ends (run_between g.S.FileSystem.content g.O.Sink.taken g.O.Sink.failed g.O.Output.waiting c.args.store.now c.args.store.now c.args.output.now c.answer_image.new.output) g.W.Sink.taken g.W.Sink.failed c.args.errors.now c.answer_image.new.errors request c.answer_image.result) (sym c.in-Image.is)
    (rw c.as_slice-files-in-Image.ensures.value at c.answer_image.ensures, λ name. refl)

pub returns-in-Show : goal.returns-in-Show
returns-in-Show g c =
    subst (λ request. Ends (run_between g.S.FileSystem.content g.O.Sink.taken g.O.Sink.failed g.O.Output.waiting c.args.store.now c.args.store.now c.args.output.now c.answer_text-in-Show.new.output) g.W.Sink.taken g.W.Sink.failed c.args.errors.now c.answer_text-in-Show.new.errors request c.answer_text-in-Show.result) (sym c.in-Show.is)
    (c.answer_text-in-Show.ensures, λ name. refl)

pub returns-in-Copy : goal.returns-in-Copy
returns-in-Copy g c =
    subst (λ request. Ends (run_between g.S.FileSystem.content g.O.Sink.taken g.O.Sink.failed g.O.Output.waiting c.args.store.now c.answer_copy.new.store c.args.output.now c.args.output.now) g.W.Sink.taken g.W.Sink.failed c.args.errors.now c.answer_copy.new.errors request c.answer_copy.result) (sym c.in-Copy.is)
    (c.answer_copy.ensures, Keeps-refl (g.O.Sink.taken c.args.output.now))

pub returns-in-OutOfMemory : goal.returns-in-OutOfMemory
returns-in-OutOfMemory g c =
    subst (λ request. Ends (run_between g.S.FileSystem.content g.O.Sink.taken g.O.Sink.failed g.O.Output.waiting c.args.store.now c.args.store.now c.args.output.now c.args.output.now) g.W.Sink.taken g.W.Sink.failed c.args.errors.now c.report_failure.new.errors request c.report_failure.result) (sym c.in-OutOfMemory.is) (
      out_of_memory_told g.W.Sink.taken g.W.Sink.failed c.args.errors.now c.report_failure.new.errors [] c.out_of_memory.result c.report_failure.result c.out_of_memory.ensures c.report_failure.ensures.status c.report_failure.ensures.line,
      (λ name. refl),
      Keeps-refl (g.O.Sink.taken c.args.output.now),
    )
