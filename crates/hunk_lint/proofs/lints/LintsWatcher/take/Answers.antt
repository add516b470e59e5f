-- One oddity after another.
use Rattle.std.proofs.Common.{◌++◌, map, ap, ◌∙◌, arith}
use Rattle.hunk_lint.specs.Oddity.{lint_at, lints_of, odd_at}
use Rattle.hunk_lint.proofs.LintsLemmas.{told-again, told-first, told-then}
use Rattle.hunk_lint.proofs.lints.LintsWatcher.take.Goals as goal

pub returns : goal.returns
returns g c = λ before few is.
    let place = c.args.self.now.place in
    let odd = odd_at c.args.kind before (c.args.due, c.args.word) in
    let type_bits = told-first place _ _ _ _ _ c.ignores_type_bits-odd.ensures c.in_ok-tell.ensures in
    let hunk_name = told-then place _ _ _ _ _ _ _ type_bits c.names_load_hunk-odd.ensures c.in_ok-tell-2.ensures in
    let size_bits = told-then place _ _ _ _ _ _ _ hunk_name c.ignores_size_bits-odd.ensures c.in_ok-tell-3.ensures in
    let bss_size = told-then place _ _ _ _ _ _ _ size_bits (c.has_other_size-odd.ensures before is.watch) c.in_ok-tell-4.ensures in
    let no_offsets = told-then place _ _ _ _ _ _ _ bss_size (c.has_no_offsets-odd.ensures before is.watch) c.in_ok-tell-5.ensures in
    let same_hunk = told-again place _ _ _ _ _ _ no_offsets (c.named_again-again.ensures before is.watch) c.in_ok-tell_again.ensures in
    let no_references = told-then place _ _ _ _ _ _ _ same_hunk c.has_no_references-odd.ensures c.in_ok-tell-6.ensures in
    let told = told-then place _ _ _ _ _ _ _ no_references (c.ignores_name_bytes-odd.ensures before is.watch) c.in_ok-tell-7.ensures in
    record {
      watch = c.in_ok-take.ensures before few is.watch;
      place = omega (arith, c.saturating_add-self.ensures, is.place, few);
      found = told ∙ ap (λ xs. xs ++ map (lint_at place) odd) is.found ∙ ap (λ p. lints_of c.args.kind before ++ map (lint_at p) odd) is.place;
    }
