-- Where kinds start and end in a longword, so that halves always come in pairs.
use Rattle.std.proofs.Common.{◌≡◌, ℕ, zero, suc, List, [], ◌∷◌, refl}
use Rattle.hunk_words.specs.Kinds.{Within, Kind, Width, width, flip, half_after, low, bits, entry_of, entry_length}
use Rattle.hunk_words.specs.Kinds.Width.{long, half}
use Rattle.hunk_words.specs.Kinds.Within.{in_unit, in_load}
use Rattle.hunk_words.specs.Kinds.Kind.{object_start, load_start, unit_type, hunk_type, content_type, block_type, past_end, unit_length, name_length, word, value, content_size, reloc_count, hunk_number, offset, debug_length, ext_entry, ref_count, ref_offset, symbol_entry, resident, table_size, first_hunk, last_hunk, header_size, short_count, short_hunk, short_offset, short_pad}
use Rattle.hunk_words.specs.declared.kinds.Half.{Half}
use Rattle.hunk_words.specs.declared.kinds.Half.TheVariants.{Upper as upper, Lower as lower}
use Rattle.hunk_words.specs.declared.kinds.HunkKind.{HunkKind}
use Rattle.hunk_words.specs.declared.kinds.HunkKind.TheVariants.{Code, Data, Bss}
use Rattle.hunk_words.specs.declared.kinds.BlockType.{BlockType}
use Rattle.hunk_words.specs.declared.kinds.BlockType.TheVariants.{Unit as unit, Name as name, Content as content, Reloc as reloc, Ext as ext, Symbol as symbol, Debug as debug, Short as short}
use Rattle.hunk_words.specs.declared.kinds.EntryType.{EntryType}
use Rattle.hunk_words.specs.declared.kinds.EntryType.TheVariants.{Definition as definition, Absolute as absolute, Reference as reference, Other as other_entry}
use Rattle.hunk_words.specs.Machine.{times, short_times, hunks_due, unit_part, hunk_part, block_part, content_part, entry_part, push}

-- where a field of this width starts, and where the next one does
abbrev pub starts_at : Width → Half
starts_at long = upper
starts_at (half h) = h

abbrev pub next_at : Width → Half
next_at long = upper
next_at (half h) = flip h

-- where what a kind makes expected ends
abbrev pub ends_at : Kind → Half
ends_at (short_hunk h last limit more) = half_after (suc more) (flip h)
ends_at (short_offset h limit target) = flip h
ends_at _ = upper

-- what is expected starts at this half, each kind where the one before it ends, and the last ends a
-- longword
abbrev pub Aligned : Half → List Kind → Type 0
Aligned h [] = h ≡ upper
Aligned h (k ∷ s) = (starts_at (width k) ≡ h) × Aligned (ends_at k) s

aligned-words : (n : ℕ) (s : List Kind) → Aligned upper s → Aligned upper (times n word s)
aligned-words zero s a = a
aligned-words (suc n) s a = (refl, aligned-words n s a)

aligned-offsets : (limit target n : ℕ) (s : List Kind) → Aligned upper s → Aligned upper (times n (offset limit target) s)
aligned-offsets limit target zero s a = a
aligned-offsets limit target (suc n) s a = (refl, aligned-offsets limit target n s a)

aligned-ref-offsets : (limit n : ℕ) (s : List Kind) → Aligned upper s → Aligned upper (times n (ref_offset limit) s)
aligned-ref-offsets limit zero s a = a
aligned-ref-offsets limit (suc n) s a = (refl, aligned-ref-offsets limit n s a)

aligned-short : (limit target n : ℕ) (h : Half) (s : List Kind) → Aligned (half_after n h) s → Aligned h (short_times n h limit target s)
aligned-short limit target zero h s a = a
aligned-short limit target (suc n) h s a = (refl, aligned-short limit target n (flip h) s a)

aligned-hunks : (last : ℕ) (sizes : List ℕ) (s : List Kind) → Aligned upper s → Aligned upper (hunks_due last sizes s)
aligned-hunks last [] s a = a
aligned-hunks last (size ∷ sizes) s a = (refl, aligned-hunks last sizes s a)

aligned-unit : (y : BlockType) (b : ℕ) (s : List Kind) → Aligned upper s → Aligned upper (unit_part y b s)
aligned-unit unit b s a = (refl, (refl, a))
aligned-unit name b s a = (refl, (refl, (refl, a)))
aligned-unit (content c) b s a = (refl, (refl, a))
aligned-unit _ b s a = a

aligned-hunk : (w : Within) (y : BlockType) (b : ℕ) (s : List Kind) → Aligned upper s → Aligned upper (hunk_part w y b s)
aligned-hunk w name b s a = (refl, (refl, a))
aligned-hunk w (content c) b s a = (refl, a)
aligned-hunk w _ b s a = a

aligned-block : (w : Within) (limit : ℕ) (y : BlockType) (s : List Kind) → Aligned upper s → Aligned upper (block_part w limit y s)
aligned-block w limit reloc s a = (refl, (refl, a))
aligned-block w limit ext s a = (refl, (refl, a))
aligned-block w limit symbol s a = (refl, (refl, a))
aligned-block w limit debug s a = (refl, (refl, a))
aligned-block in_unit limit short s a = a
aligned-block (in_load last size) limit short s a = (refl, (refl, a))
aligned-block w limit _ s a = a

aligned-content : (w : Within) (c : HunkKind) (n : ℕ) (s : List Kind) → Aligned upper s → Aligned upper (content_part w c n s)
aligned-content w Code n s a = aligned-words n _ (refl, a)
aligned-content w Data n s a = aligned-words n _ (refl, a)
aligned-content w Bss n s a = (refl, a)

aligned-entry : (limit : ℕ) (y : EntryType) (n : ℕ) (s : List Kind) → Aligned upper s → Aligned upper (entry_part limit y n s)
aligned-entry limit definition n s a = aligned-words n _ (refl, (refl, a))
aligned-entry limit absolute n s a = aligned-words n _ (refl, (refl, a))
aligned-entry limit reference n s a = aligned-words n _ (refl, (refl, a))
aligned-entry limit other_entry n s a = aligned-words n _ (refl, (refl, a))

pub aligned-push : (k : Kind) (n : ℕ) (s : List Kind) → Aligned (ends_at k) s → Aligned (next_at (width k)) (push k n s)
aligned-push object_start n s a = (refl, (refl, a))
aligned-push load_start n s a = (refl, (refl, a))
aligned-push unit_type n s a = aligned-unit _ _ s a
aligned-push (hunk_type last size) n s a = aligned-hunk (in_load last size) _ (bits n) s a
aligned-push (content_type w) n s a = aligned-hunk w _ (bits n) s a
aligned-push (block_type w limit) n s a = aligned-block w limit _ s a
aligned-push past_end n s a = a
aligned-push unit_length n s a = aligned-words n s a
aligned-push name_length n s a = aligned-words n s a
aligned-push word n s a = a
aligned-push value n s a = a
aligned-push (content_size w c b) n s a = aligned-content w c (low n) s a
aligned-push (reloc_count w limit) zero s a = a
aligned-push (reloc_count w limit) (suc n) s a = (refl, (refl, a))
aligned-push (hunk_number w limit more) n s a = (refl, aligned-offsets limit n more s a)
aligned-push (offset limit target) n s a = a
aligned-push debug_length n s a = aligned-words n s a
aligned-push (ext_entry limit) zero s a = a
aligned-push (ext_entry limit) (suc n) s a = aligned-entry limit (entry_of (suc n)) (entry_length (suc n)) s a
aligned-push (ref_count limit) n s a = aligned-ref-offsets limit n s a
aligned-push (ref_offset limit) n s a = a
aligned-push symbol_entry zero s a = a
aligned-push symbol_entry (suc n) s a = (refl, aligned-words n _ (refl, (refl, a)))
aligned-push resident n s a = a
aligned-push table_size n s a = (refl, (refl, (refl, a)))
aligned-push first_hunk n s a = a
aligned-push (last_hunk last) n s a = a
aligned-push (header_size last room zero sizes) n s a = aligned-hunks last _ s a
aligned-push (header_size last room (suc left) sizes) n s a = (refl, a)
aligned-push (short_count upper last limit) zero s a = (refl, a)
aligned-push (short_count lower last limit) zero s a = a
aligned-push (short_count upper last limit) (suc n) s a = (refl, (refl, a))
aligned-push (short_count lower last limit) (suc n) s a = (refl, (refl, a))
aligned-push (short_hunk h last limit more) n s a = aligned-short limit n (suc more) (flip h) s a
aligned-push (short_offset h limit target) n s a = a
aligned-push short_pad n s a = a
