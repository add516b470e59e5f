-- Each worked file is computed by the machine, which finds what the definitions say.
use Rattle.std.proofs.Common.{refl, [], ◌∷◌}
use Rattle.hunk_words.specs.Kinds.{type_of, entry_of}
use Rattle.hunk_words.specs.declared.event.FileKind.TheVariants.{Object, Load}
use Rattle.hunk_words.specs.Examples.{every_block_units, object_e, references_twice, references_twice_units, short_hunks, short_load, unusual_hunks, unusual_load}
use Rattle.hunk_words.proofs.ExamplesLemmas.{is-file, ends-first, offends-first, tells-units, tells-hunks}
use Rattle.hunk_words.proofs.laws.worked_files.Goals as goal

pub returns-clause-load : goal.returns-clause-load
unfolding type_of entry_of
returns-clause-load c = record {
  empty_ends_early = ends-first Load _ refl refl refl (λ x. x);
  small_is_file = is-file Load _ refl refl refl tt;
  object_is_none = offends-first Load _ _ _ refl refl refl;
  site_in_zeros_is_file = is-file Load _ refl refl refl tt;
  unusual_is_file = is-file Load _ refl refl refl tt;
  block_too_long = offends-first Load _ _ _ refl refl refl;
  size_bits_ignored = is-file Load _ refl refl refl tt;
  type_bits_ignored = is-file Load _ refl refl refl tt;
  advisory_bit_is_type = offends-first Load _ _ _ refl refl refl;
  short_is_no_content = offends-first Load _ _ _ refl refl refl;
  both_memories = offends-first Load _ _ _ refl refl refl;
  behind_file = offends-first Load _ _ _ refl refl refl;
  overlay_behind_file = offends-first Load _ _ _ refl refl refl;
  short_behind_file = offends-first Load _ _ _ refl refl refl;
  end_missing = ends-first Load _ refl refl refl (λ x. x);
  next_hunk_without_end = offends-first Load _ _ _ refl refl refl;
  unsupported_block = offends-first Load _ _ _ refl refl refl;
  hunk_not_there = offends-first Load _ _ _ refl refl refl;
  no_hunks = offends-first Load _ _ _ refl refl refl;
  many_hunks = offends-first Load _ _ _ refl refl refl;
  first_hunk_not_0 = offends-first Load _ _ _ refl refl refl;
  last_hunk_wrong = offends-first Load _ _ _ refl refl refl;
  resident_names = offends-first Load _ _ _ refl refl refl;
  sizes_just_fit = ends-first Load _ refl refl refl (λ x. x);
  sizes_too_large = offends-first Load _ _ _ refl refl refl;
}

pub returns-clause-short : goal.returns-clause-short
unfolding type_of entry_of
returns-clause-short c = record {
  odd_words_and_pad = is-file Load _ refl refl refl tt;
  even_words = is-file Load _ refl refl refl tt;
  no_groups = is-file Load _ refl refl refl tt;
  lower_overlaps = offends-first Load _ _ _ refl refl refl;
  upper_comes_first = offends-first Load _ _ _ refl refl refl;
  short_hunk_not_there = offends-first Load _ _ _ refl refl refl;
  pad_missing = ends-first Load _ refl refl refl (λ x. x);
  short_in_unit = offends-first Object _ _ _ refl refl refl;
}

pub returns-clause-object : goal.returns-clause-object
unfolding type_of entry_of
returns-clause-object c = record {
  empty_ends_early = ends-first Object _ refl refl refl (λ x. x);
  unit_without_hunks = is-file Object _ refl refl refl tt;
  load_is_none = offends-first Object _ _ _ refl refl refl;
  reference_is_file = is-file Object _ refl refl refl tt;
  every_block_is_file = is-file Object _ refl refl refl tt;
  references_twice_is_file = is-file Object _ refl refl refl tt;
  sites_overlap = offends-first Object _ _ _ refl refl refl;
  site_just_inside = ends-first Object _ refl refl refl (λ x. x);
  site_outside = offends-first Object _ _ _ refl refl refl;
  site_in_zeros = offends-first Object _ _ _ refl refl refl;
  chip_zeros = is-file Object _ refl refl refl tt;
  both_memories = offends-first Object _ _ _ refl refl refl;
  two_definitions = is-file Object _ refl refl refl tt;
  common_symbol = offends-first Object _ _ _ refl refl refl;
  symbol_in_ext = offends-first Object _ _ _ refl refl refl;
  symbol_of_kind = offends-first Object _ _ _ refl refl refl;
}

pub returns-clause-value : goal.returns-clause-value
unfolding type_of entry_of
returns-clause-value c = record {
  references_twice_told = tells-units references_twice references_twice_units refl refl refl tt refl;
  every_block_told = tells-units (object_e 1) every_block_units refl refl refl tt refl;
  unusual_told = tells-hunks unusual_load ((0, 3) ∷ (1, 1) ∷ []) unusual_hunks refl refl refl tt refl refl;
  short_told = tells-hunks (short_load (0x20000 ∷ 4 ∷ 0xFFFF ∷ 0x3F2 ∷ [])) ((0, 2) ∷ []) short_hunks refl refl refl tt refl refl;
}
