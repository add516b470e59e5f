-- One name was given for both files, a file of addresses is too large, or the output did not take everything.
use Rattle.std.proofs.Common.{map, subst, sym}
use Rattle.std.specs.String.{string_bytes}
use Rattle.hunk_store.specs.Failure.{failure_line, TellsLine}
use Rattle.hunk_store.proofs.failure.tell_failure.Goals as goal

pub returns-in-SameFile : goal.returns-in-SameFile
returns-in-SameFile g c =
    subst (λ failure. TellsLine g.W.Sink.taken g.W.Sink.failed c.args.errors.now c.tell_about-in-SameFile.new.errors (failure_line (map string_bytes c.args.files.now) failure)) (sym c.in-SameFile.is)
    c.tell_about-in-SameFile.ensures

pub returns-in-TooManyAddresses : goal.returns-in-TooManyAddresses
returns-in-TooManyAddresses g c =
    subst (λ failure. TellsLine g.W.Sink.taken g.W.Sink.failed c.args.errors.now c.tell_about-in-TooManyAddresses.new.errors (failure_line (map string_bytes c.args.files.now) failure)) (sym c.in-TooManyAddresses.is)
    c.tell_about-in-TooManyAddresses.ensures

pub returns-in-TooLong : goal.returns-in-TooLong
returns-in-TooLong g c =
    subst (λ failure. TellsLine g.W.Sink.taken g.W.Sink.failed c.args.errors.now c.tell_about-in-TooLong.new.errors (failure_line (map string_bytes c.args.files.now) failure)) (sym c.in-TooLong.is)
    c.tell_about-in-TooLong.ensures

pub returns-in-Printing : goal.returns-in-Printing
returns-in-Printing g c =
    subst (λ failure. TellsLine g.W.Sink.taken g.W.Sink.failed c.args.errors.now c.tell_fault.new.errors (failure_line (map string_bytes c.args.files.now) failure)) (sym c.in-Printing.is)
    c.tell_fault.ensures

pub returns-in-MapOverFile : goal.returns-in-MapOverFile
returns-in-MapOverFile g c =
    subst (λ failure. TellsLine g.W.Sink.taken g.W.Sink.failed c.args.errors.now c.tell_about-in-MapOverFile.new.errors (failure_line (map string_bytes c.args.files.now) failure)) (sym c.in-MapOverFile.is)
    c.tell_about-in-MapOverFile.ensures

pub returns-in-Opening : goal.returns-in-Opening
returns-in-Opening g c =
    subst (λ failure. TellsLine g.W.Sink.taken g.W.Sink.failed c.args.errors.now c.tell_about.new.errors (failure_line (map string_bytes c.args.files.now) failure)) (sym c.in-Opening.is)
    c.tell_about.ensures
