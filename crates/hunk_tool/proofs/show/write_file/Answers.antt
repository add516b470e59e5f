-- The listing of its kind is that of the file.
use Rattle.std.proofs.Common.{◌∙◌, ◌<◌, ◌^◌, ap, length, subst, sym}
use Rattle.hunk_base.proofs.TextLemmas.{Puts-as}
use Rattle.hunk_files.specs.HunkFile.{value_of}
use Rattle.hunk_text.specs.Listing.{load_listing, object_listing}
use Rattle.hunk_text.proofs.ListingLemmas.{hunk_count-fits}
use Rattle.hunk_tool.specs.Show.{show_text}
use Rattle.hunk_tool.proofs.show.write_file.Goals as goal

pub write_object_listing-requires : goal.write_object_listing-requires
write_object_listing-requires g c =
    let same = ap (λ file. show_text (value_of file)) c.in-Object.is ∙ sym (ap object_listing c.deref.ensures.value) in
    hunk_count-fits _ (subst (λ text. length text < 2 ^ 64) same c.requires)

pub returns-in-Object : goal.returns-in-Object
returns-in-Object g c = Puts-as (ap object_listing c.deref.ensures.value ∙ sym (ap (λ file. show_text (value_of file)) c.in-Object.is)) c.write_object_listing.ensures

pub returns-in-Load : goal.returns-in-Load
returns-in-Load g c = Puts-as (ap load_listing c.hunks.ensures.value ∙ sym (ap (λ file. show_text (value_of file)) c.in-Load.is)) c.write_load_listing.ensures
