-- The text that is asked for is the one that was written.
use Rattle.std.proofs.Common.{rules}
use Rattle.hunk_commands.proofs.text.print_text_to.Goals as goal

pub returns-in-Shown-JsonWithContent-clause-ok : goal.returns-in-Shown-JsonWithContent-clause-ok
returns-in-Shown-JsonWithContent-clause-ok g c = search rules

pub returns-in-Shown-JsonWithContent-clause-err : goal.returns-in-Shown-JsonWithContent-clause-err
returns-in-Shown-JsonWithContent-clause-err g c = search rules

pub returns-in-Shown-Page-clause-ok : goal.returns-in-Shown-Page-clause-ok
returns-in-Shown-Page-clause-ok g c = search rules

pub returns-in-Shown-Page-clause-err : goal.returns-in-Shown-Page-clause-err
returns-in-Shown-Page-clause-err g c = search rules
