-- The units after the events of a whole file are those of the file, and a file has one list of units.
use Rattle.std.proofs.Common.{◌∙◌, ℕ, List, ap, sym}
use Rattle.hunk_words.specs.DecoderCore.{TellsFile}
use Rattle.hunk_words.specs.Event.{events}
use Rattle.hunk_words.specs.EventValue.{value_of_events, initial_object}
use Rattle.hunk_words.specs.Spelling.{object_spelling}
use Rattle.hunk_words.specs.declared.event.FileKind.TheVariants.{Object}
use Rattle.hunk_words.proofs.EventValueTreeLemmas.{object-told}
use Rattle.hunk_words.proofs.ValuesLemmas.{object-one}
use Rattle.hunk_objects.specs.Laws.{OneObject, WholeIsPartial}
use Rattle.hunk_objects.specs.ProgramUnit.{IsObject, object_units}
use Rattle.hunk_objects.specs.UnitBuilder.{StandsFor, units_so_far}
use Rattle.hunk_objects.specs.declared.unit_builder.UnitBuilder.{UnitBuilder}
use Rattle.hunk_objects.proofs.UnitBuilderLemmas.{units_so_far-parts}

pub partial-whole : WholeIsPartial
partial-whole t fits = ap object_units (object-told t fits)

pub one-object : OneObject
one-object one other ws a b =
    sym a.value ∙ ap object_units (object-one a.tree b.tree a.is_file.fits b.is_file.fits (a.is_file.spelled ∙ sym b.is_file.spelled)) ∙ b.value

-- what a builder holds after the events of a whole file
pub units-object : {A : Type 0} (b : UnitBuilder A) (ws : List ℕ) → TellsFile Object (StandsFor b) ws → IsObject (units_so_far b.units.items b.unit) ws
units-object b ws tells = record {
  tree = tells.tree;
  is_file = tells.is_file;
  value = sym (units_so_far-parts b.units.items b.unit (value_of_events initial_object (events (object_spelling tells.tree))).parts tells.stands.units ∙ partial-whole tells.tree tells.is_file.fits);
}
