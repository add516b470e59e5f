-- Load files whose hunks are changed one by one.
use Rattle.std.proofs.Common.{◌≡◌, ◌≤◌, ◌∙◌, ℕ, List, length, map, sym, ap, subst, sum_by, arith}
use Rattle.std.specs.List.{All}
use Rattle.std.proofs.Math.Path.{fun_ext}
use Rattle.std.proofs.lemmas.List.{length-map}
use Rattle.std.proofs.lemmas.List.Elements.{All-map, All-weaker}
use Rattle.std.proofs.lemmas.List.Sums.{sum_by-le-sum_by}
use Rattle.hunk_loadfile.specs.LoadHunk.{FileHunk}
use Rattle.hunk_loadfile.specs.Rules.{IsLoadFile, IsLoadHunk, carried_by, carried_longwords, size_of}
use Rattle.hunk_loadfile.proofs.MappedLemmas.{sum_by-map}

-- A change that keeps the rules of a hunk and its size, and adds no symbols and debug blocks.
pub record KeepsRules (f : FileHunk → FileHunk) : Type 0 where
  pub size : (hunk : FileHunk) → (f hunk).size ≡ hunk.size
  pub carries : (hunk : FileHunk) → carried_by (f hunk) ≤ carried_by hunk
  pub each : (count : ℕ) (hunk : FileHunk) → IsLoadHunk count hunk → IsLoadHunk count (f hunk)

module _ (f : FileHunk → FileHunk) (keeps : KeepsRules f) where
  size_of-mapped : (hunks : List FileHunk) → size_of (map f hunks) ≡ size_of hunks
  size_of-mapped hunks =
      sum_by-map f (λ (h : FileHunk). h.size) hunks ∙ ap (λ size. sum_by size hunks) (fun_ext keeps.size)

  pub carried_longwords-mapped : (hunks : List FileHunk) → carried_longwords (map f hunks) ≤ carried_longwords hunks
  carried_longwords-mapped hunks = omega (arith, sum_by-map f carried_by hunks, sum_by-le-sum_by (λ h. carried_by (f h)) carried_by hunks keeps.carries)

  pub IsLoadFile-mapped : (hunks : List FileHunk) → IsLoadFile hunks → IsLoadFile (map f hunks)
  IsLoadFile-mapped hunks valid =
      let counted : length (map f hunks) ≡ length hunks = length-map hunks f in
      let each : All (λ hunk. IsLoadHunk (length hunks) (f hunk)) hunks = All-weaker (IsLoadHunk (length hunks)) (λ hunk. IsLoadHunk (length hunks) (f hunk)) (keeps.each (length hunks)) hunks valid.each in
      record {
        some = omega (arith, counted, valid.some);
        few = omega (arith, counted, valid.few);
        small = omega (arith, size_of-mapped hunks, valid.small);
        carries = omega (arith, carried_longwords-mapped hunks, valid.carries);
        each = subst (λ count. All (IsLoadHunk count) (map f hunks)) (sym counted) (All-map (IsLoadHunk (length hunks)) f hunks each);
      }
