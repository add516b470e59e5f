-- The lines about the refusal.
use Rattle.std.proofs.Common.{◌≡◌, ◌∙◌, List, [], ℕ, ap, ap₂, map, refl, rules}
use Rattle.std.specs.String.{string_bytes}
use Rattle.hunk_base.proofs.TextLemmas.{Puts-as}
use Rattle.hunk_tool.specs.Inputs.{file_names}
use Rattle.hunk_origins.specs.LinkExplanation.{Told, told_of, told_text}
use Rattle.hunk_store.proofs.FailureLemmas.{tells_text}
use Rattle.hunk_commands.specs.Explain.{AreRefusalLines}
use Rattle.hunk_commands.proofs.ExplainLemmas.{tells_exactly}
use Rattle.hunk_commands.proofs.explain.explain_refusal.Goals as goal

pub returns : goal.returns
returns g c =
    let files = file_names c.args.files.now in
    let refusal = c.args.refusal.now in
    let units = c.in_ok-units.units in
    let names_are : map string_bytes c.as_slice.result.now ≡ files = ap (map string_bytes) c.as_slice.ensures.value ∙ c.in_ok-names.ensures in
    let put = Puts-as (ap₂ (λ (names : List (List ℕ)) (told : Told). told_text names told) names_are c.in_ok-explanation.ensures) c.write_link_explanation.ensures in
    let wrote = c.finish.ensures.wrote c.args.errors.now _ (put.adds _ [] c.new-text.ensures.empty) in
    let told = tells_exactly g.W.Sink.taken g.W.Sink.failed c.args.errors.now _ (AreRefusalLines (g.S.FileSystem.content c.args.store.now) files refusal) (told_text files (told_of units refusal)) (record { units = units; are = c.in_ok-units.ensures.units; lines_are = refl })
    (tells_text g.W.Sink.taken g.W.Sink.failed c.args.errors.now _ _ c.finish.result wrote) in
    search (rules, told)
