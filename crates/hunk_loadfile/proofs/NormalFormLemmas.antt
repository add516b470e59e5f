-- What holds of load files in normal form.
use Rattle.std.proofs.Common.{◌≡◌, ◌==◌, ◌≤◌, ◌+◌, ◌*◌, ◌/◌, Bool, false, not, ℕ, List, [], length, refl, arith}
use Rattle.hunk_loadfile.specs.LoadHunk.{FileHunk}
use Rattle.hunk_loadfile.specs.NormalForm.{nonzero_length, normal_form, normal_hunk}
use Rattle.hunk_loadfile.specs.Patching.{byte_or_zero}
use Rattle.hunk_loadfile.specs.Rules.{IsLoadFile, IsLoadHunk}
use Rattle.hunk_loadfile.specs.Stripping.{stripped_hunk}
use Rattle.hunk_loadfile.specs.Trimming.{kept_end}
use Rattle.hunk_loadfile.proofs.MappedRulesLemmas.{KeepsRules, IsLoadFile-mapped}
use Rattle.hunk_loadfile.proofs.StrippingLemmas.{IsLoadHunk-stripped}
use Rattle.hunk_loadfile.proofs.TrimmingLemmas.{IsLoadHunk-cut, kept_end-either, kept_end-le, kept_end-none, kept_length-le}

-- ---- how much is kept

abbrev pub is_nonzero_at : List ℕ → ℕ → Bool
is_nonzero_at content i = not (byte_or_zero content i == 0)

pub nonzero_length-end : (content : List ℕ) → nonzero_length content ≡ 4 * ((kept_end (is_nonzero_at content) (length content) + 3) / 4)
nonzero_length-end content = omega (arith, kept_end-either (is_nonzero_at content) (λ i. false) (length content), kept_end-none (length content))

pub nonzero_end-le : (content : List ℕ) → kept_end (is_nonzero_at content) (length content) ≤ length content
nonzero_end-le content = kept_end-le (is_nonzero_at content) (length content)

-- ---- the rules

IsLoadHunk-normal : (count : ℕ) (hunk : FileHunk) → IsLoadHunk count hunk → IsLoadHunk count (normal_hunk hunk)
IsLoadHunk-normal count hunk valid =
    IsLoadHunk-cut count (nonzero_length hunk.content) (stripped_hunk hunk) (omega arith) (kept_length-le {T = ℕ} hunk.content [] valid.whole) (IsLoadHunk-stripped count hunk valid)

pub KeepsRules-normal : KeepsRules normal_hunk
KeepsRules-normal = record { size = λ hunk. refl; carries = λ hunk. omega arith; each = IsLoadHunk-normal }

pub IsLoadFile-normal : (hunks : List FileHunk) → IsLoadFile hunks → IsLoadFile (normal_form hunks)
IsLoadFile-normal = IsLoadFile-mapped normal_hunk KeepsRules-normal
