use Rattle.std.proofs.Common.{◌≡◌, ◌++◌, ◌∙◌, List, length, take, drop, ap, subst, sym, arith}
use Rattle.std.proofs.lemmas.Grind.{common_steps}
use Rattle.std.proofs.lemmas.List.{take_at}
use Rattle.hunk_loadfile.specs.LoadHunk.{FileHunk}
use Rattle.hunk_loadfile.specs.Rules.{IsLoadFile}
use Rattle.hunk_loadfile.specs.Stripping.{stripped}
use Rattle.hunk_loadfile.proofs.StrippingLemmas.{IsLoadFile-stripped}
use Rattle.hunk_loadfile.proofs.load_file.LoadFile.stripped.Goals as goal

pub of_hunks-requires : goal.of_hunks-requires
of_hunks-requires g c =
    let new : List FileHunk = c.strip.new.hunks in
    let made = c.into_hunks-hunks in
    let whole : take made.result.len (new ++ drop (length new) made.result.items) ≡ new = take_at new (drop (length new) made.result.items) made.result.len (c.strip.auto.hunks ∙ c.deref_mut.ensures.len) in
    subst IsLoadFile (sym (whole ∙ c.strip.ensures ∙ ap stripped (c.deref_mut.ensures.value ∙ made.ensures.value))) (IsLoadFile-stripped c.args.self made.ensures.valid)

-- `grind` at once: `search`, which Rattle tries before it, is slow here
pub returns : goal.returns
returns g c = grind (arith, common_steps)
