-- Where bytes are, as far as a clause can say it: not at null, and how many. Where a pointer leads once
-- a call has returned is not a fact about its value.
use Rattle.std.specs.Prelude.{◌≡◌, ℕ, List, length}
use denote.RawPtr.{InBlock}
use Rattle.amihunk_c.specs.declared.span.Span.{Span}

pub record IsSpanOf (bytes : List ℕ) (span : Span) : Type 0 where
  pub not_null : InBlock span.bytes
  pub size : span.size ≡ length bytes
