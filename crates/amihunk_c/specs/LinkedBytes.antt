-- Where the bytes of the load file of a session are.
use Rattle.std.specs.Prelude.{◌≡◌, ℕ, Option, None, Some}
use Rattle.amihunk_c.specs.Codes.{status_code}
use Rattle.amihunk_c.specs.Spans.{IsSpanOf}
use Rattle.amihunk_c.specs.declared.codes.Status.{Status}
use Rattle.amihunk_c.specs.declared.codes.Status.TheVariants as status
use Rattle.amihunk_c.specs.declared.session.Session.{Session}
use Rattle.amihunk_c.specs.declared.session.Session.TheVariants.{Linked}
use Rattle.amihunk_c.specs.declared.span.Span.{Span}

-- the bytes are told; what was told before stays if there are none
abbrev pub LocatesLinked : Session → (old new : Span) → Status → Type 0
LocatesLinked (Linked linked) old new told = IsSpanOf linked.bytes.items new × (told ≡ status.Ok)
LocatesLinked session old new told = (new ≡ old) × (told ≡ status.WrongState)

-- the same of a handle, with the number of the status
abbrev pub LocatesHandleLinked : Option Session → (old new : Span) → ℕ → Type 0
LocatesHandleLinked None old new code = (new ≡ old) × (code ≡ status_code status.WrongState)
LocatesHandleLinked (Some session) old new code = (told : Status) × LocatesLinked session old new told × (code ≡ status_code told)
