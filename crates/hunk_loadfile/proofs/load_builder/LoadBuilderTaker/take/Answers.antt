use Rattle.std.proofs.Common.{refl, sym, subst, Ok, Err}
use Rattle.std.specs.declared.alloc.AllocError.{AllocError}
use Rattle.hunk_words.specs.Taker.{Judges, context_of}
use Rattle.hunk_words.specs.declared.event.FileKind.TheVariants.{Load}
use Rattle.hunk_words.proofs.TakerLemmas.{judges-other}
use Rattle.hunk_loadfile.proofs.HunkBuilderLemmas.{no_reference}
use Rattle.hunk_loadfile.proofs.LoadBuilderLemmas.{Steps-event, steps-site, steps-within, takes-next, refuses-next}
use Rattle.hunk_loadfile.proofs.load_builder.LoadBuilderTaker.take.Goals as goal

pub returns-in-Site : goal.returns-in-Site
returns-in-Site g c =
    let steps = Steps-event _ _ c.add_site.result _ c.args.event c.in-Site.is (steps-site c.args.self.now c.add_site.new.self c.add_site.result c.in-Site.offset c.in-Site.target c.add_site.ensures.steps) in
    record {
      takes = λ told stands few. takes-next _ _ c.add_site.result c.args.event told steps stands;
      refuses = λ told stands few. refuses-next _ _ c.add_site.result c.args.event told steps stands;
      judges = λ told stands few. subst (λ e. Judges (context_of Load told) e c.add_site.result) (sym c.in-Site.is) (c.add_site.ensures.judges _ _ stands.builds);
      given = refl;
    }

pub returns-in-HunkEnd : goal.returns-in-HunkEnd
returns-in-HunkEnd g c =
    let steps = Steps-event _ _ c.end_hunk.result _ c.args.event c.in-HunkEnd.is c.end_hunk.ensures.steps in
    record {
      takes = λ told stands few. takes-next _ _ c.end_hunk.result c.args.event told steps stands;
      refuses = λ told stands few. refuses-next _ _ c.end_hunk.result c.args.event told steps stands;
      judges = λ told stands few. subst (λ e. Judges (context_of Load told) e c.end_hunk.result) (sym c.in-HunkEnd.is) c.end_hunk.ensures.judges;
      given = refl;
    }

pub returns-in-Ok : goal.returns-in-Ok
returns-in-Ok g c =
    let steps = steps-within {E = AllocError} c.args.self.now c.take.new.self (Ok c.in-Ok.field-0) c.args.event c.in-Ok.ensures.only c.in-Ok.ensures.steps in
    record {
      takes = λ told stands few. takes-next {E = AllocError} c.args.self.now _ (Ok c.in-Ok.field-0) c.args.event told steps stands;
      refuses = λ told stands few. tt;
      judges = λ told stands few. judges-other (context_of Load told) c.args.event tt c.in_default.not-Site (no_reference c.args.event c.in-Ok.ensures.only);
      given = refl;
    }

pub returns-in-Err-clause-refuses : goal.returns-in-Err-clause-refuses
returns-in-Err-clause-refuses g c = λ told stands few.
    let steps = steps-within {E = AllocError} c.args.self.now c.take.new.self (Err c.in-Err.field-0) c.args.event tt c.in-Err.ensures.steps in
    refuses-next {E = AllocError} c.args.self.now _ (Err c.in-Err.field-0) c.args.event told steps stands
