use Rattle.std.proofs.Common.{◌≡◌, ◌≤◌, ◌*◌, ◌∙◌, ℕ, List, length, sym, subst, arith}
use Rattle.hunk_base.specs.Name.{bytes_of}
use Rattle.hunk_words.specs.EventValue.{step}
use Rattle.hunk_words.specs.SiteContext.{context_with}
use Rattle.hunk_words.specs.declared.event.Event.TheVariants.{HunkEnd}
use Rattle.hunk_words.specs.declared.event.FileKind.TheVariants.{Load}
use Rattle.hunk_loadfile.specs.Comparer.{Compares, content_at, without_content}
use Rattle.hunk_loadfile.specs.ContentComparer.{Follows}
use Rattle.hunk_loadfile.specs.declared.comparer.Comparer.{Comparer}
use Rattle.hunk_loadfile.proofs.ComparerLemmas.{Compares-end, Compares-refused, number-ended, size-ended}
use Rattle.hunk_loadfile.proofs.comparer.Comparer.end_hunk.Goals as goal

pub returns-in-Err-clause-steps : goal.returns-in-Err-clause-steps
returns-in-Err-clause-steps g c = λ told watch h. Compares-refused c.args.self.now c.end_hunk.new.self told watch (c.in-Err.ensures.ends (without_content told) watch h.builds) h

pub returns-clause-steps : goal.returns-clause-steps
returns-clause-steps g c = λ told watch h.
    let old = c.args.self.now in
    let second = c.in-Ok.second in
    let ends = c.in-Ok.ensures.ends (without_content told) watch h.builds in
    let content : List ℕ = bytes_of told.hunk.content in
    let came : c.count.result ≡ length content = c.count.ensures (content_at old.first watch.position.ended) content h.content in
    let limit : c.limit.result ≡ watch.position.limit = c.limit.ensures (without_content told) watch h.builds in
    let within : length content ≤ 4 * second.size = omega (arith, came, limit, c.if-count-limit.false, size-ended second (without_content told) watch ends.0) in
    let number : c.ended-number.result ≡ length h.hunks = c.ended-number.ensures ∙ number-ended old told watch h in
    let follows : Follows old.content (content_at old.first c.ended-number.result) content =
    subst (λ (n : ℕ). Follows old.content (content_at old.first n) content) (sym (c.ended-number.ensures ∙ h.builds.ended)) h.content in
    subst (λ (new : Comparer g.row.A.Denot). Compares (record { first = new.first; current = new.current; content = c.new-self.result; found = c.compare_hunk.new.self.found }) (step told HunkEnd) (context_with Load watch HunkEnd)) (sym c.compare_hunk.ensures.rest)
    (Compares-end old c.end_hunk.new.self c.new-self.result second c.compare_hunk.new.self.found told watch h ends.0 ends.1 c.new-self.ensures (c.compare_hunk.ensures.found h.hunks content h.found number within follows))
