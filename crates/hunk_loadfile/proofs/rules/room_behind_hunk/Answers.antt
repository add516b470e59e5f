-- The lists of the hunk are those that `room_behind` is given.
use Rattle.std.proofs.Common.{◌≡◌, ◌∙◌, ℕ, List, OnSome, ap, subst}
use Rattle.std.specs.List.{All}
use Rattle.hunk_words.specs.DebugInfo.{lists_of}
use Rattle.hunk_loadfile.specs.LoadHunk.{FileHunk}
use Rattle.hunk_loadfile.specs.Rules.{IsLongword, IsTypedSymbol}
use Rattle.hunk_loadfile.proofs.rules.room_behind_hunk.Goals as goal

pub returns-clause-symbols : goal.returns-clause-symbols
returns-clause-symbols g c =
    let symbols : c.deref.result.now ≡ c.args.hunk.now.symbols = c.deref.ensures.value ∙ ap (λ (hunk : FileHunk). hunk.symbols) c.hunk.view_is in
    subst (λ (list : List (List ℕ × ℕ)). OnSome c.room_behind.result (All IsTypedSymbol list)) symbols c.room_behind.ensures.symbols

pub returns-clause-debugs : goal.returns-clause-debugs
returns-clause-debugs g c =
    let debugs : lists_of c.deref-2.result.now ≡ c.args.hunk.now.debugs = ap lists_of c.deref-2.ensures.value ∙ ap (λ (hunk : FileHunk). hunk.debugs) c.hunk.view_is in
    subst (λ (lists : List (List ℕ)). OnSome c.room_behind.result (All (All IsLongword) lists)) debugs c.room_behind.ensures.debugs
