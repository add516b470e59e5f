-- The files that are given were linked, and those in the list after them; or the names in the list are not known.
use Rattle.std.proofs.Common.{◌∙◌, [], ap, inl, inr, map, refl, string_bytes, subst}
use Rattle.hunk_store.specs.FileList.{IsListFailure, list_of}
use Rattle.hunk_store.specs.Store.{AreUnchanged}
use Rattle.hunk_commands.specs.Explain.{AreLinkLines, IfAsked}
use Rattle.hunk_commands.specs.Request.{EndsLinkOf, given_text}
use Rattle.hunk_commands.proofs.RequestLemmas.{IsFailed-why}
use Rattle.hunk_commands.proofs.link_request.answer_link.Goals as goal

pub returns-in-Ok : goal.returns-in-Ok
returns-in-Ok g c =
    let known = c.in-Ok.ensures.ok in
    rw c.in-Some.is (inl (
      known.0,
      known.1,
      subst (λ files. EndsLinkOf (g.S.FileSystem.content c.args.store.now) (g.S.FileSystem.content c.answer_link_of.new.store) g.W.Sink.taken g.W.Sink.failed c.args.errors.now c.answer_link_of.new.errors c.args.out.now (given_text c.args.map_file) c.args.options c.args.globals c.args.explain files c.answer_link_of.result)
          (ap (map string_bytes) c.as_slice-names.ensures.value ∙ known.2) c.answer_link_of.ensures,
    ))

pub returns-in-Err : goal.returns-in-Err
returns-in-Err g c =
    let contents = g.S.FileSystem.content c.args.store.now in
    rw c.in-Some.is (inr (IsFailed-why g.W.Sink.taken g.W.Sink.failed (λ failure. IsListFailure contents (list_of c.in-Some.list) failure × AreUnchanged contents contents) (IfAsked c.args.explain (AreLinkLines contents [])) [] c.fail.result c.args.errors.now c.fail.new.errors c.in-Err.failure (c.in-Err.ensures.err, λ name. refl) c.fail.ensures))
