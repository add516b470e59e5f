use Rattle.std.proofs.Common.{◌≡◌, ℕ, ◌<◌, ◌-◌, List, suc, length, vec_len, ap, sym, arith, refl, ◌∙◌}
use Rattle.hunk_words.specs.DebugInfo.{DebugLists}
use Rattle.hunk_words.proofs.DebugInfoLemmas.{lists_of-last, lists_of-none, lists_of-same, none-left}
use Rattle.hunk_words.proofs.debug_info.DebugInfo.add_debug_word.Goals as goal
use Rattle.hunk_words.proofs.debug_info.DebugInfo.add_debug_word.Goals.{in-Some+in-Ok, in-Some+in-Err, in-None}

pub returns-clause-adds : goal.returns-clause-adds
returns-clause-adds g c = elim c.match-last_mut.branch [
  | in-Some+in-Ok w ↦
      let vecs = c.self.inside.debugs in
      let some : 0 < vec_len vecs = w.in-Some.ensures.variant.0 refl in
      let count : vec_len vecs ≡ length vecs.items = vecs.ok.0 in
      let one : length vecs.items ≡ suc (vec_len vecs - 1) = omega arith in
      rw (w.result-is, w.self-inside-is, sym c.self.view_is)
      (ap (λ (ds : List (List ℕ)). let lists : DebugLists = record { symbols = c.self.inside.symbols.items; debugs = ds } in lists)
      (lists_of-last vecs.items (vec_len vecs - 1) c.args.word w.in-Some.debug.now w.push.new.self one w.in-Some.ensures.value w.in-Ok.ensures.items))
  | in-Some+in-Err w ↦ rw (w.result-is) tt
  | in-None w ↦
      let vecs = c.self.inside.debugs in
      let none : length vecs.items ≡ 0 = sym vecs.ok.0 ∙ none-left (vec_len vecs) w.in-None.ensures.variant.1 in
      rw (w.result-is, w.self-inside-is, sym c.self.view_is)
      (ap (λ (ds : List (List ℕ)). let lists : DebugLists = record { symbols = c.self.inside.symbols.items; debugs = ds } in lists)
      (lists_of-none vecs.items c.args.word none))
]

pub returns-clause-refused : goal.returns-clause-refused
returns-clause-refused g c = elim c.match-last_mut.branch [
  | in-Some+in-Ok w ↦ rw (w.result-is) tt
  | in-Some+in-Err w ↦
      let vecs = c.self.inside.debugs in
      let some : 0 < vec_len vecs = w.in-Some.ensures.variant.0 refl in
      let count : vec_len vecs ≡ length vecs.items = vecs.ok.0 in
      let within : vec_len vecs - 1 < length vecs.items = omega arith in
      rw (w.result-is, w.self-inside-is, sym c.self.view_is)
      (ap (λ (ds : List (List ℕ)). let lists : DebugLists = record { symbols = c.self.inside.symbols.items; debugs = ds } in lists)
      (lists_of-same vecs.items (vec_len vecs - 1) w.in-Some.debug.now w.push.new.self within w.in-Some.ensures.value w.in-Err.ensures.items))
  | in-None w ↦ rw (w.result-is) tt
]
