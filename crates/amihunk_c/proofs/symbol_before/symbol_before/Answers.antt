-- One more symbol.
use Rattle.std.proofs.Common.{◌≡◌, ◌+◌, ◌<◌, ℕ, List, [], ◌∷◌, ◌++◌, get_or, length, option_map, take, ap, sym, subst, ◌∙◌, arith}
use Rattle.std.proofs.lemmas.List.{take_more}
use Rattle.amihunk_c.specs.SymbolBefore.{IsFound}
use Rattle.amihunk_c.proofs.SymbolBeforeLemmas.{found-next, found-past, found-still}
use Rattle.amihunk_c.proofs.symbol_before.symbol_before.Goals.{then-symbol-offset+then-is_higher, else-symbol-offset, else-symbol-offset-via-then-symbol-offset+else-is_higher, else-symbol-offset-via-else-symbol-offset}
use Rattle.amihunk_c.proofs.symbol_before.symbol_before.Goals as goal

seen : (symbols : List (List ℕ × ℕ)) (i : ℕ) (symbol : List ℕ × ℕ) → i < length symbols → symbol ≡ get_or symbols i symbol → take (i + 1) symbols ≡ take i symbols ++ symbol ∷ []
seen symbols i symbol within is = take_more symbols i symbol within ∙ ap (λ s. take i symbols ++ s ∷ []) (sym is)

pub loop-symbol-preserved : goal.loop-symbol-preserved
loop-symbol-preserved c =
    let symbols = take c.loop-symbol.symbol-index c.args.symbols.now in
    let symbol = c.symbol-item.result in
    let before = option_map (λ s. s.now) c.loop-symbol.found in
    let so_far = c.loop-symbol.invariant in
    subst (λ all. IsFound all c.args.offset (option_map (λ s. s.now) c.if-symbol-offset.found)) (sym (seen _ _ symbol c.loop-symbol-test.true c.symbol-item.is))
    (elim c.if-symbol-offset.branch [
      | then-symbol-offset+then-is_higher w ↦
          subst (λ found. IsFound (symbols ++ symbol ∷ []) c.args.offset (option_map (λ s. s.now) found)) (sym w.found-is)
          (found-next symbols c.args.offset symbol before so_far w.if-symbol-offset.true (w.is_higher.ensures.higher w.if-is_higher.true))
      | else-symbol-offset w ↦
          subst (λ found. IsFound (symbols ++ symbol ∷ []) c.args.offset (option_map (λ s. s.now) found)) (sym w.found-is)
          (elim w.else-symbol-offset.branch [
            | else-symbol-offset-via-then-symbol-offset+else-is_higher v ↦ found-still symbols c.args.offset symbol before so_far (v.is_higher.ensures.lower v.if-is_higher.false)
            | else-symbol-offset-via-else-symbol-offset v ↦ found-past symbols c.args.offset symbol before so_far (omega (arith, v.if-symbol-offset.false))
          ])
    ])
