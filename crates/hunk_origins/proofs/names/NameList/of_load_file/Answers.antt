-- The symbols of one more hunk, and of all.
use Rattle.std.proofs.Common.{◌≡◌, ◌∙◌, ◌++◌, List, None, ap, ap₂, map, subst, sym}
use Rattle.std.specs.List.{flat_map}
use Rattle.std.specs.Result.{IfOk}
use Rattle.hunk_base.proofs.TextLemmas.{numbered-all}
use Rattle.hunk_loadfile.specs.LoadHunk.{FileHunk}
use Rattle.hunk_origins.specs.Names.{AreSorted, Entry, load_entries, load_names, symbol_entry}
use Rattle.hunk_origins.proofs.NamesLemmas.{numbered-more}
use Rattle.hunk_origins.proofs.names.NameList.of_load_file.Goals as goal

pub loop-number-preserved : goal.loop-number-preserved
loop-number-preserved g c =
    let number = c.loop-number.number in
    let hunks = c.hunks-hunk-items.result.now in
    let hunk = c.hunk-item.result in
    let own : map (symbol_entry None number c.hunk.inside.kind) c.deref.result.now ≡ load_entries (number, hunk) =
    ap (map (symbol_entry None number c.hunk.inside.kind)) c.deref.ensures.value ∙ ap (λ (h : FileHunk). load_entries (number, h)) c.hunk.view_is in
    c.in_ok-add_symbols.ensures
    ∙ ap₂ (λ (before added : List Entry). before ++ added) c.loop-number.invariant own
    ∙ sym (numbered-more load_entries hunks number hunk c.loop-number-test.true c.hunk-item.is)

pub returns : goal.returns
returns g c =
    let hunks = c.hunks-hunk-items.result.now in
    subst (λ (names : List Entry). IfOk c.sorted.result (AreSorted names))
    (c.loop-number.invariant ∙ ap (flat_map load_entries) (numbered-all hunks c.loop-number.number c.loop-number-test.false) ∙ ap load_names c.hunks-hunk-items.ensures.value)
    c.sorted.ensures
