use Rattle.std.proofs.Common.{◌+◌, ◌<◌, ◌∙◌, ℕ, Some, length, ap, sym, arith}
use Rattle.std.specs.Option.{option_map}
use Rattle.hunk_loadfile.specs.Patching.{byte_or_zero}
use Rattle.hunk_loadfile.proofs.ContentComparerLemmas.{place_in-front}
use Rattle.hunk_loadfile.proofs.LowestLemmas.{lowest-low}
use Rattle.hunk_loadfile.proofs.content_comparer.unlike_behind.Goals as goal

pub overflow_add-result : goal.overflow_add-result
overflow_add-result c =
    let first = c.args.first.now in
    let bytes = c.args.bytes.now in
    let place = place_in-front first bytes c.args.start c.first_byte.result (rw c.window.ensures at c.first_byte.ensures) in
    let low : c.in-Some.offset < length bytes = lowest-low _ (length bytes) c.in-Some.offset (sym place ∙ c.in-Some.is) in
    omega (arith, c.requires)

pub overflow_cast-result : goal.overflow_cast-result
overflow_cast-result c =
    let first = c.args.first.now in
    let bytes = c.args.bytes.now in
    let place = place_in-front first bytes c.args.start c.first_byte.result (rw c.window.ensures at c.first_byte.ensures) in
    let low : c.in-Some.offset < length bytes = lowest-low _ (length bytes) c.in-Some.offset (sym place ∙ c.in-Some.is) in
    omega (arith, c.requires)

pub returns-in-Some : goal.returns-in-Some
returns-in-Some c =
    let first = c.args.first.now in
    let bytes = c.args.bytes.now in
    let place = place_in-front first bytes c.args.start c.first_byte.result (rw c.window.ensures at c.first_byte.ensures) in
    ap (λ (b : ℕ). Some (c.args.start + c.in-Some.offset, b)) c.byte_at.ensures
    ∙ ap (option_map (λ offset. (c.args.start + offset, byte_or_zero bytes offset))) (sym c.in-Some.is ∙ place)

pub returns-in-None : goal.returns-in-None
returns-in-None c =
    let first = c.args.first.now in
    let bytes = c.args.bytes.now in
    let place = place_in-front first bytes c.args.start c.first_byte.result (rw c.window.ensures at c.first_byte.ensures) in
    ap (option_map (λ offset. (c.args.start + offset, byte_or_zero bytes offset))) (sym c.in-None.is ∙ place)
