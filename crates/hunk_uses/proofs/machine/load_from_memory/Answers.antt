-- What the header tells is of the file, and the loader stands for all of it.
use Rattle.std.proofs.Common.{Err, refl, sym, ap, subst, ◌∙◌}
use Rattle.std.proofs.lemmas.Result.{err_from_is_err_and}
use Rattle.hunk_loader.specs.ImageLoader.{Fed}
use Rattle.hunk_uses.specs.Machine.{AreChosen}
use Rattle.hunk_uses.proofs.MachineLemmas.{file-parts, finish-loaded, finish-refused, finished-at, misplaced-from, rejected-early, rejected-fed}
use Rattle.hunk_uses.proofs.machine.load_from_memory.Goals as goal

pub returns-in-Err-HeaderIncomplete-clause-refused : goal.returns-in-Err-HeaderIncomplete-clause-refused
returns-in-Err-HeaderIncomplete-clause-refused c =
    let has = c.in_ok-taken.ensures.taken (ap (λ s. s.refusal) c.new-header.ensures) in
    let none = (rw c.in-Err-HeaderIncomplete.field-0-is at c.in-Err-HeaderIncomplete.ensures.incomplete).0 refl in
    rejected-early c.args.first c.in_ok-taken.taken c.args.file.now _ c.feed.new.self c.finish.result (ap (λ s. s.bytes) c.new-header.ensures) has none (c.finish.ensures.early c.in_ok-taken.ensures.keeps)

pub returns-in-Err-Place-clause-refused : goal.returns-in-Err-Place-clause-refused
returns-in-Err-Place-clause-refused c =
    let has = c.in_ok-taken.ensures.taken (ap (λ s. s.refusal) c.new-header.ensures) in
    let begun = ap (λ s. s.bytes) c.new-header.ensures in
    let cannot = (rw c.in-Err-Place.field-0-is at (c.in-Err-Place.ensures.refused c.in-Err-Place.fault)).0 refl in
    let chosen = subst (λ bases. AreChosen c.args.first c.feed.new.self.hunks bases) (sym c.deref.ensures.value) c.in_ok-bases.ensures in
    misplaced-from c.args.first c.args.file.now c.deref.result.now c.feed.new.self.bytes _ c.feed.new.self.hunks c.in-Err-Place.fault has.header (sym (file-parts c.args.file.now c.in_ok-taken.taken _ c.feed.new.self begun has)) chosen cannot

pub returns-in_err-feed-clause-refused : goal.returns-in_err-feed-clause-refused
returns-in_err-feed-clause-refused c =
    let p = err_from_is_err_and c.from_residual-in_err-feed.result c.from_residual-in_err-feed.ensures.1 in
    let has = c.in_ok-taken.ensures.taken (ap (λ s. s.refusal) c.new-header.ensures) in
    let parts = file-parts c.args.file.now c.in_ok-taken.taken _ c.feed.new.self (ap (λ s. s.bytes) c.new-header.ensures) has in
    let fed = c.in_err-feed.ensures.fed _ (c.in_err-feed.ensures.stands c.feed.new.self.bytes c.in-Ok.ensures.stands) in
    rw (p.1, p.2) (rejected-fed c.args.first c.args.file.now c.in_err-feed.field-0.0 (subst (λ bs. Fed bs (Err c.in_err-feed.field-0.0)) parts fed))

pub returns-clause-loaded : goal.returns-clause-loaded
returns-clause-loaded c =
    let has = c.in_ok-taken.ensures.taken (ap (λ s. s.refusal) c.new-header.ensures) in
    let parts = file-parts c.args.file.now c.in_ok-taken.taken _ c.feed.new.self (ap (λ s. s.bytes) c.new-header.ensures) has in
    let chosen = subst (λ bases. AreChosen c.args.first c.feed.new.self.hunks bases) (sym c.deref.ensures.value) c.in_ok-bases.ensures in
    let answer = c.finish-2.ensures.answer _ (c.in_ok-feed.ensures.stands c.feed.new.self.bytes c.in-Ok.ensures.stands) in
    let given = c.in_ok-feed.ensures.given ∙ c.in-Ok.ensures.given in
    finish-loaded c.args.first c.args.file.now c.deref.result.now c.feed.new.self.bytes _ c.feed.new.self.hunks c.finish-2.result has.header parts chosen (c.in-Ok.ensures.placed refl)
    (finished-at _ _ _ _ c.finish-2.result given parts answer)

pub returns-clause-refused : goal.returns-clause-refused
returns-clause-refused c =
    let has = c.in_ok-taken.ensures.taken (ap (λ s. s.refusal) c.new-header.ensures) in
    let parts = file-parts c.args.file.now c.in_ok-taken.taken _ c.feed.new.self (ap (λ s. s.bytes) c.new-header.ensures) has in
    let answer = c.finish-2.ensures.answer _ (c.in_ok-feed.ensures.stands c.feed.new.self.bytes c.in-Ok.ensures.stands) in
    let given = c.in_ok-feed.ensures.given ∙ c.in-Ok.ensures.given in
    finish-refused c.args.first c.args.file.now c.deref.result.now c.feed.new.self.bytes _ c.finish-2.result parts (c.in-Ok.ensures.stays refl)
    (finished-at _ _ _ _ c.finish-2.result given parts answer)
