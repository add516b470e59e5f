-- The next name is one more text, or it is none.
use Rattle.std.proofs.Common.{◌≡◌, ◌∙◌, ◌++◌, ◌+◌, [], ◌∷◌, Ok, ap, length, length-append, map, string_bytes, subst, sym}
use Rattle.std.specs.List.{All}
use Rattle.std.specs.Str.{IsUtf8}
use Rattle.std.proofs.lemmas.List.{length-map, map-append}
use Rattle.std.proofs.lemmas.List.Elements.{All-push}
use Rattle.std.proofs.lemmas.Result.{err_from_is_err_and}
use Rattle.hunk_store.specs.NameReader.{TakesNames, unread}
use Rattle.hunk_store.proofs.ListedNamesLemmas.{IsListFailure-no_text}
use Rattle.hunk_store.proofs.NameReaderLemmas.{takes-more}
use Rattle.hunk_store.proofs.listed_names.listed_names.Goals as goal

pub returns-in_err-text-clause-err : goal.returns-in_err-text-clause-err
returns-in_err-text-clause-err g c =
    let so_far = c.loop-index.invariant in
    let left = g.S.File.Source.left in
    let name = c.next.new.name.items in
    let next = subst (λ end. TakesNames end (unread left c.loop-index.reader) (unread left c.next.new.self) (name ∷ [])) so_far.same_end (c.in-Ok-true.ensures.some (ap (λ there. Ok there) c.in-Ok-true.field-0-test)) in
    let p = err_from_is_err_and c.from_residual-in_err-text.result c.from_residual-in_err-text.ensures.1 in
    rw (p.1, p.2)
    (IsListFailure-no_text (g.S.FileSystem.content c.args.store.now) c.args.list so_far.start (unread left c.loop-index.reader) (unread left c.next.new.self) (map string_bytes c.loop-index.names.items) name c.loop-index.index _
    so_far.from_start so_far.taken next so_far.texts (length-map c.loop-index.names.items string_bytes ∙ so_far.count) (rw c.deref.ensures.value at c.in_err-text.ensures.err))

pub loop-index-preserved : goal.loop-index-preserved
loop-index-preserved g c =
    let so_far = c.loop-index.invariant in
    let left = g.S.File.Source.left in
    let old = map string_bytes c.loop-index.names.items in
    let name = c.next.new.name.items in
    let next = subst (λ end. TakesNames end (unread left c.loop-index.reader) (unread left c.next.new.self) (name ∷ [])) so_far.same_end (c.in-Ok-true.ensures.some (ap (λ there. Ok there) c.in-Ok-true.field-0-test)) in
    let text = c.in_ok-text.ensures.ok in
    let grown : map string_bytes c.push.new.self.items ≡ old ++ name ∷ [] =
    ap (map string_bytes) c.in-Ok.ensures.items ∙ map-append string_bytes c.loop-index.names.items (c.in_ok-text.text ∷ []) ∙ ap (λ it. old ++ it ∷ []) (text.0 ∙ c.deref.ensures.value) in
    record {
      start = so_far.start;
      from_start = so_far.from_start;
      same_end = c.in-Ok-true.ensures.end ∙ so_far.same_end;
      taken = subst (TakesNames c.args.list.end so_far.start (unread left c.next.new.self)) (sym grown) (takes-more c.args.list.end so_far.start (unread left c.loop-index.reader) (unread left c.next.new.self) old (name ∷ []) so_far.taken next);
      texts = subst (All IsUtf8) (sym grown) (All-push IsUtf8 old name so_far.texts (subst IsUtf8 c.deref.ensures.value text.1));
      count = ap length c.in-Ok.ensures.items ∙ length-append c.loop-index.names.items (c.in_ok-text.text ∷ []) ∙ ap (λ n. n + 1) so_far.count;
    }
