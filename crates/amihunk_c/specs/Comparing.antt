-- Where two load files that were read first differ, and what C is told.
use Rattle.std.specs.Prelude.{Bool, List, Option, Some, Result, Ok, Err}
use Rattle.hunk_loadfile.specs.LoadHunk.{FileHunk}
use Rattle.amihunk_c.specs.Compared.{difference_between}
use Rattle.amihunk_c.specs.LoadRead.{file_in}
use Rattle.amihunk_c.specs.declared.codes.Status.{Status}
use Rattle.amihunk_c.specs.declared.codes.Status.TheVariants.{WrongState}
use Rattle.amihunk_c.specs.declared.compared.DifferenceTold.{DifferenceTold}
use Rattle.amihunk_c.specs.declared.session.Session.{Session}

-- where two load files first differ, if both are there
abbrev pub difference_of : (first second : Option (List FileHunk)) → (with_symbols : Bool) → Result DifferenceTold Status
difference_of (Some first) (Some second) with_symbols = Ok (difference_between first second with_symbols)
difference_of first second with_symbols = Err WrongState

abbrev pub difference_in : (first second : Option Session) → (with_symbols : Bool) → Result DifferenceTold Status
difference_in first second with_symbols = difference_of (file_in first) (file_in second) with_symbols
