use Rattle.std.proofs.Common.{ℕ, List, refl, sym, subst, ap, pred, length, Ok, Err, ◌∙◌}
use Rattle.std.proofs.lemmas.List.{length-map}
use Rattle.std.specs.declared.alloc.AllocError.{AllocError}
use Rattle.hunk_base.specs.Name.{name_of}
use Rattle.hunk_words.specs.Taker.{context_of}
use Rattle.hunk_words.specs.Values.Adds.{to_hunk, to_reference}
use Rattle.hunk_words.specs.declared.event.Event.TheVariants as event
use Rattle.hunk_words.specs.declared.event.FileKind.TheVariants.{Object}
use Rattle.hunk_words.proofs.TakerLemmas.{judges-memory, judges-other}
use Rattle.hunk_objects.specs.UnitBuilder.{Steps}
use Rattle.hunk_objects.specs.declared.unit_builder.UnitBuilder.{UnitBuilder}
use Rattle.hunk_objects.specs.declared.unit_hunk.Adds.TheVariants as adds
use Rattle.hunk_objects.proofs.UnitBuilderLemmas.{Steps-site, takes-next, refuses-next}
use Rattle.hunk_objects.proofs.unit_builder.UnitBuilderTaker.take.Goals as goal

pub returns-in-Site-clause-takes : goal.returns-in-Site-clause-takes
returns-in-Site-clause-takes g c = λ told stands few.
    let e = c.add_site.ensures in
    let old = c.args.self.now in
    let new : UnitBuilder g.row.A.Denot = record old { hunk = c.add_site.new.self } in
    let steps = Steps-site old c.add_site.new.self c.add_site.result c.in-Site.offset (adds.Hunk c.in-Site.target) (λ hunk. to_hunk c.in-Site.target) (event.Site c.in-Site.offset c.in-Site.target)
    (λ t. refl) (λ t. refl) (λ limit seen in_content hunk shows. refl) e.adds e.holds e.refused in
    takes-next old new c.add_site.result c.args.event told (subst (λ ev. Steps old new c.add_site.result ev) (sym c.in-Site.is) steps) stands

pub returns-in-RefSite-clause-takes : goal.returns-in-RefSite-clause-takes
returns-in-RefSite-clause-takes g c = λ told stands few.
    let e = c.add_reference_site.ensures in
    let old = c.args.self.now in
    let new : UnitBuilder g.row.A.Denot = record old { hunk = c.add_reference_site.new.self } in
    let steps = Steps-site old c.add_reference_site.new.self c.add_reference_site.result c.in-RefSite.offset (adds.Reference (pred (length old.hunk.references)))
    (λ hunk. to_reference (pred (length hunk.tables.references))) (event.RefSite c.in-RefSite.offset) (λ t. refl) (λ t. refl)
    (λ limit seen in_content hunk shows. ap (λ n. adds.Reference (pred n)) (ap (λ (names : List (List ℕ)). length names) shows.references ∙ length-map hunk.tables.references name_of)) e.adds e.holds e.refused in
    takes-next old new c.add_reference_site.result c.args.event told (subst (λ ev. Steps old new c.add_reference_site.result ev) (sym c.in-RefSite.is) steps) stands

pub returns-in-Ok : goal.returns-in-Ok
returns-in-Ok g c = record {
  takes = λ told stands few. takes-next {E = AllocError} c.args.self.now c.build.new.self (Ok c.in-Ok.field-0) c.args.event told c.in-Ok.ensures.steps stands;
  refuses = λ told stands few. tt;
  judges = λ told stands few. judges-other (context_of Object told) c.args.event tt c.in_default.not-Site c.in_default.not-RefSite;
  given = refl;
}

pub returns-in-Err : goal.returns-in-Err
returns-in-Err g c = record {
  takes = λ told stands few. tt;
  refuses = λ told stands few. refuses-next {E = AllocError} c.args.self.now c.build.new.self (Err c.in-Err.field-0) c.args.event told c.in-Err.ensures.steps stands;
  judges = λ told stands few. judges-memory (context_of Object told) c.args.event;
  given = refl;
}
