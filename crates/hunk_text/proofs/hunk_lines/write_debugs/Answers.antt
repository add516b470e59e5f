-- All debug blocks, whose longwords are lists.
use Rattle.std.proofs.Common.{List, ℕ, ◌∙◌, ◌≤◌, Vec, ap, length, sym, arith}
use Rattle.std.specs.List.{flat_map}
use Rattle.std.proofs.lemmas.List.{take_all}
use Rattle.std.proofs.lemmas.List.Folds.{flat_map-map}
use Rattle.hunk_base.proofs.TextLemmas.{Puts-as}
use Rattle.hunk_text.specs.Listing.{debug_line}
use Rattle.hunk_text.proofs.hunk_lines.write_debugs.Goals as goal

pub returns : goal.returns
returns g c =
    let words : Vec ℕ _ → List ℕ = λ v. v.items in
    let lines : Vec ℕ _ → List ℕ = λ v. debug_line v.items in
    let all : length c.args.debugs.now ≤ c.loop-words.words-index = omega arith in
    Puts-as (ap (flat_map lines) (take_all c.loop-words.words-index c.args.debugs.now all) ∙ sym (flat_map-map debug_line words c.args.debugs.now)) c.loop-words.invariant
