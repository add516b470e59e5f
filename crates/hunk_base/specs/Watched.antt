-- What a watched reader or writer shows: the one inside, and what it saw.
use Rattle.std.specs.Prelude.{Bool}
use Rattle.hunk_base.specs.declared.watched.Watched.{Watched}

abbrev pub inner_of : {T : Type 0} → Watched T → T
inner_of watched = watched.inner

abbrev pub saw_failure : {T : Type 0} → Watched T → Bool
saw_failure watched = watched.failed

abbrev pub saw_end : {T : Type 0} → Watched T → Bool
saw_end watched = watched.ended
