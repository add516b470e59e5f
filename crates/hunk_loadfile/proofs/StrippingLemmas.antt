-- What holds of load files without symbols and debug blocks.
use Rattle.std.proofs.Common.{ℕ, List, refl, arith}
use Rattle.hunk_loadfile.specs.LoadHunk.{FileHunk}
use Rattle.hunk_loadfile.specs.Rules.{IsLoadFile, IsLoadHunk}
use Rattle.hunk_loadfile.specs.Stripping.{stripped, stripped_hunk}
use Rattle.hunk_loadfile.proofs.MappedRulesLemmas.{KeepsRules, IsLoadFile-mapped}

pub IsLoadHunk-stripped : (count : ℕ) (hunk : FileHunk) → IsLoadHunk count hunk → IsLoadHunk count (stripped_hunk hunk)
IsLoadHunk-stripped count hunk valid = record {
  typed = record { bytes = valid.typed.bytes; apart = valid.typed.apart; symbols = λ i d low. absurd (omega arith); debugs = λ i d low. absurd (omega arith) };
  whole = valid.whole;
  content = valid.content;
  limit = valid.limit;
  targets = valid.targets;
  names = λ i d low. absurd (omega arith);
}

KeepsRules-stripped : KeepsRules stripped_hunk
KeepsRules-stripped = record { size = λ hunk. refl; carries = λ hunk. omega arith; each = IsLoadHunk-stripped }

pub IsLoadFile-stripped : (hunks : List FileHunk) → IsLoadFile hunks → IsLoadFile (stripped hunks)
IsLoadFile-stripped = IsLoadFile-mapped stripped_hunk KeepsRules-stripped
