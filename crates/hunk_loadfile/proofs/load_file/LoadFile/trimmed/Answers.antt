use Rattle.std.proofs.Common.{◌≡◌, ◌++◌, ◌∙◌, ◌%◌, List, length, take, drop, ap, subst, sym, arith}
use Rattle.std.proofs.lemmas.Grind.{common_steps}
use Rattle.std.proofs.lemmas.List.{take_at}
use Rattle.std.specs.List.{All}
use Rattle.hunk_loadfile.specs.LoadHunk.{FileHunk}
use Rattle.hunk_loadfile.specs.Rules.{IsLoadFile}
use Rattle.hunk_loadfile.specs.Trimming.{trimmed}
use Rattle.hunk_loadfile.proofs.TrimmingLemmas.{IsLoadFile-trimmed}
use Rattle.hunk_loadfile.proofs.load_file.LoadFile.trimmed.Goals as goal

pub of_hunks-requires : goal.of_hunks-requires
of_hunks-requires g c =
    let new : List FileHunk = c.trim.new.hunks in
    let made = c.into_hunks-hunks in
    let whole : take made.result.len (new ++ drop (length new) made.result.items) ≡ new = take_at new (drop (length new) made.result.items) made.result.len (c.trim.auto.hunks ∙ c.deref_mut.ensures.len) in
    subst IsLoadFile (sym (whole ∙ c.trim.ensures ∙ ap trimmed (c.deref_mut.ensures.value ∙ made.ensures.value))) (IsLoadFile-trimmed c.args.self made.ensures.valid)

pub trim-requires : goal.trim-requires
trim-requires g c =
    let made = c.into_hunks-hunks in
    subst (All (λ (hunk : FileHunk). length hunk.content % 4 ≡ 0)) (sym (c.deref_mut.ensures.value ∙ made.ensures.value)) (λ i hunk low. (made.ensures.valid.each i hunk low).whole)

-- `grind` at once: `search`, which Rattle tries before it, is slow here
pub returns : goal.returns
returns g c = grind (arith, common_steps)
