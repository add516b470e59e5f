use Rattle.std.proofs.Common.{sym, subst, Ok, Err}
use Rattle.std.specs.declared.alloc.AllocError.{AllocError}
use Rattle.hunk_words.specs.Taker.{Judges, context_of}
use Rattle.hunk_words.specs.declared.event.FileKind.TheVariants.{Load}
use Rattle.hunk_words.proofs.TakerLemmas.{judges-other}
use Rattle.hunk_loadfile.proofs.ComparerLemmas.{Steps-event, steps-site, takes-next, refuses-next}
use Rattle.hunk_loadfile.proofs.comparer.ComparerTaker.take.Goals as goal

pub returns-in-Site-clause-takes : goal.returns-in-Site-clause-takes
returns-in-Site-clause-takes g c = λ told stands few.
    takes-next _ _ c.add_site.result c.args.event told
    (Steps-event _ _ c.add_site.result _ c.args.event c.in-Site.is (steps-site c.args.self.now c.add_site.new.self c.add_site.result c.in-Site.offset c.in-Site.target c.add_site.ensures.steps)) stands

pub returns-in-Site-clause-refuses : goal.returns-in-Site-clause-refuses
returns-in-Site-clause-refuses g c = λ told stands few.
    refuses-next _ _ c.add_site.result c.args.event told
    (Steps-event _ _ c.add_site.result _ c.args.event c.in-Site.is (steps-site c.args.self.now c.add_site.new.self c.add_site.result c.in-Site.offset c.in-Site.target c.add_site.ensures.steps)) stands

pub returns-in-Site-clause-judges : goal.returns-in-Site-clause-judges
returns-in-Site-clause-judges g c = λ told stands few. subst (λ e. Judges (context_of Load told) e c.add_site.result) (sym c.in-Site.is) (c.add_site.ensures.judges _ _ stands.builds)

pub returns-in-Ok-clause-takes : goal.returns-in-Ok-clause-takes
returns-in-Ok-clause-takes g c = λ told stands few. takes-next {E = AllocError} c.args.self.now c.add_event.new.self (Ok c.in-Ok.field-0) c.args.event told c.in-Ok.ensures.steps stands

pub returns-in-Ok-clause-judges : goal.returns-in-Ok-clause-judges
returns-in-Ok-clause-judges g c = λ told stands few. judges-other (context_of Load told) c.args.event tt c.in_default.not-Site c.in-Ok.ensures.no_reference

pub returns-in-Err-clause-refuses : goal.returns-in-Err-clause-refuses
returns-in-Err-clause-refuses g c = λ told stands few. refuses-next {E = AllocError} c.args.self.now c.add_event.new.self (Err c.in-Err.field-0) c.args.event told c.in-Err.ensures.steps stands
