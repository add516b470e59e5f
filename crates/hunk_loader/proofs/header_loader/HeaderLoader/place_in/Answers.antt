-- No loader refuses the bytes of a header, and it stands for them.
use Rattle.std.proofs.Common.{[], ◌++◌, Some, sym, ap, subst, ◌∙◌}
use Rattle.hunk_base.specs.Longwords.{longwords}
use Rattle.hunk_words.specs.Files.{IsValidPrefix}
use Rattle.hunk_words.specs.declared.event.FileKind.TheVariants.{Load}
use Rattle.hunk_loader.specs.HeaderHunks.{told_sizes}
use Rattle.hunk_loader.specs.HeaderLoader.{hunks_told}
use Rattle.hunk_loader.specs.ImageLoader.{IsNotPlaced, StandsFor}
use Rattle.hunk_loader.specs.Places.{IsFirstRefusal}
use Rattle.hunk_loader.proofs.HeaderBytesLemmas.{prefix-no-offence}
use Rattle.hunk_loader.proofs.HeaderLoaderLemmas.{cannot-place, not-placed, sound-whole}
use Rattle.hunk_loader.proofs.header_loader.HeaderLoader.place_in.Goals as goal

pub unreachable-requires : goal.unreachable-requires
unreachable-requires g c =
    let header = sound-whole c.self.inside.header _ _ c.in-Some.hunks.items c.self.invariant (ap (λ hunks. hunks_told hunks) c.in-Some.is) in
    let begins = subst (λ bytes. IsValidPrefix Load (longwords bytes)) (sym c.deref.ensures.value) header.begins in
    prefix-no-offence _ _ _ begins (rw c.in-Err-File.field-0-is at (c.in-Err-File.ensures.fed _ (c.in-Err-File.ensures.stands [] c.in_ok-loader.ensures.0)))

pub returns-in-Ok-clause-stands : goal.returns-in-Ok-clause-stands
returns-in-Ok-clause-stands g c =
    let bytes = c.deref.ensures.value ∙ ap (λ state. state.bytes) c.self.view_is in
    subst (λ bs. StandsFor c.feed.new.self bs) bytes (c.in-Ok.ensures.stands [] c.in_ok-loader.ensures.0)

pub returns-in-Ok-clause-stays : goal.returns-in-Ok-clause-stays
returns-in-Ok-clause-stays g c = λ ok more fault no.
    let bytes = ap (λ state. state.bytes) (sym c.self.view_is) in
    let header = sound-whole c.self.inside.header _ _ c.in-Some.hunks.items c.self.invariant (ap (λ hunks. hunks_told hunks) c.in-Some.is) in
    let first = not-placed c.args.bases.now _ more _ fault header (subst (λ bs. IsNotPlaced c.args.bases.now (bs ++ more) fault) bytes no) in
    c.in_default.not-Err fault ((c.check_sizes_with.ensures.refused fault).1 (subst (λ hunks. IsFirstRefusal (told_sizes hunks) c.args.bases.now fault) (sym c.as_slice-hunks.ensures.value) first))

pub returns-in-Ok-clause-refused : goal.returns-in-Ok-clause-refused
returns-in-Ok-clause-refused g c = λ fault.
    let told = ap (λ state. state.hunks) (sym c.self.view_is) ∙ ap (λ hunks. hunks_told hunks) c.in-Some.is ∙ ap Some (sym c.as_slice-hunks.ensures.value) in (
      λ wrong. let no = wrong in cc,
      λ cannot. absurd (c.in_default.not-Err fault ((c.check_sizes_with.ensures.refused fault).1 (cannot-place _ fault _ _ told cannot))),
    )

pub returns-in-Err-OutOfMemory-clause-refused : goal.returns-in-Err-OutOfMemory-clause-refused
returns-in-Err-OutOfMemory-clause-refused g c = λ fault.
    let told = ap (λ state. state.hunks) (sym c.self.view_is) ∙ ap (λ hunks. hunks_told hunks) c.in-Some.is ∙ ap Some (sym c.as_slice-hunks.ensures.value) in (
      λ wrong. let no = wrong in cc,
      λ cannot. absurd (c.in_default.not-Err fault ((c.check_sizes_with.ensures.refused fault).1 (cannot-place _ fault _ _ told cannot))),
    )
