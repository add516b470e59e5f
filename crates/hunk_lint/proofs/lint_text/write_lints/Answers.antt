-- About the longwords, and then about the hunks of its kind.
use Rattle.std.proofs.Common.{ap, sym}
use Rattle.std.specs.List.{flat_map}
use Rattle.hunk_base.proofs.TextLemmas.{◌⨾◌, Puts-as}
use Rattle.hunk_lint.specs.HunkLint.{load_lints, object_lints}
use Rattle.hunk_lint.specs.LintText.{lint_lines, longword_line}
use Rattle.hunk_lint.specs.Linted.{oddities_of, value_of}
use Rattle.hunk_lint.proofs.lint_text.write_lints.Goals as goal

pub returns-in-Object : goal.returns-in-Object
returns-in-Object g c =
    let longwords = Puts-as (ap (flat_map longword_line) c.deref.ensures.value) c.write_longwords.ensures in
    let hunks = Puts-as (ap object_lints c.deref-in-Object.ensures.value) c.write_object_lints.ensures in
    Puts-as (sym (ap (λ file. lint_lines (oddities_of file) (value_of file)) c.in-Object.is)) (longwords ⨾ hunks)

pub returns-in-Load : goal.returns-in-Load
returns-in-Load g c =
    let longwords = Puts-as (ap (flat_map longword_line) c.deref-in-Load.ensures.value) c.write_longwords-in-Load.ensures in
    let hunks = Puts-as (ap load_lints c.hunks.ensures.value) c.write_load_lints.ensures in
    Puts-as (sym (ap (λ file. lint_lines (oddities_of file) (value_of file)) c.in-Load.is)) (longwords ⨾ hunks)
