-- The hunk is stripped, or as it was, and then has the symbols of its definitions.
use Rattle.std.proofs.Common.{◌≡◌, ◌∙◌, ◌++◌, Bool, List, Result, Ok, Err, IfOk, sym, ap}
use Rattle.hunk_objects.specs.Globals.{Symbol, global_symbols, hunk_with_globals, others, stripped_if, with_definitions}
use Rattle.hunk_objects.specs.UnitHunk.{ObjectHunk}
use Rattle.hunk_objects.proofs.globals.hunk_with_globals.Goals as goal
use Rattle.hunk_objects.proofs.globals.hunk_with_globals.Goals.{then-strip, else-strip}

with-more : {E : Type 0} (strip : Bool) (hunk middle : ObjectHunk) (more : List Symbol) (answer : Result ObjectHunk E) → middle ≡ stripped_if strip hunk → more ≡ others middle.symbols (global_symbols middle.definitions)
    → IfOk answer (λ made. made ≡ record middle { symbols = middle.symbols ++ more }) → IfOk answer (λ made. made ≡ hunk_with_globals strip hunk)
with-more strip hunk middle more (Ok made) is found value = value ∙ ap (λ (symbols : List Symbol). record middle { symbols = middle.symbols ++ symbols }) found ∙ ap with_definitions is
with-more strip hunk middle more (Err error) is found value = tt

pub returns-clause-value : goal.returns-clause-value
returns-clause-value g c =
    let hunk : ObjectHunk = c.args.hunk in
    let is : c.if-strip.hunk ≡ stripped_if c.args.strip hunk = elim c.if-strip.branch [
      | then-strip w ↦ w.hunk-is ∙ w.stripped-hunk.ensures ∙ ap (λ strip. stripped_if strip hunk) (sym w.if-strip.true)
      | else-strip w ↦ w.hunk-is ∙ ap (λ strip. stripped_if strip hunk) (sym w.if-strip.false)
    ] in
    with-more c.args.strip hunk c.if-strip.hunk c.in_ok-more.more.items c.with_symbols.result is c.in_ok-more.ensures.value c.with_symbols.ensures.value
