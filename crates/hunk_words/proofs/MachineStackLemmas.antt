-- Finishable stacks: some number passes under each kind. A stack that the machine reaches is finishable.
use Rattle.std.proofs.Common.{◌≡◌, ℕ, zero, suc, pred, ◌/◌, ◌%◌, ◌^◌, ◌<◌, List, [], ◌∷◌, subst, arith}
use Rattle.hunk_words.specs.Kinds.{Within, Kind, Width, low, bits, width, entry_of, entry_length, type_of, flip}
use Rattle.hunk_words.specs.FaultTable.{Passes}
use Rattle.hunk_words.specs.Kinds.Within.{in_load}
use Rattle.hunk_words.specs.Kinds.Kind.{object_start, load_start, unit_type, hunk_type, content_type, block_type, past_end, unit_length, name_length, word, value, content_size, reloc_count, hunk_number, offset, debug_length, ext_entry, ref_count, ref_offset, symbol_entry, resident, table_size, first_hunk, last_hunk, header_size, short_count, short_hunk, short_offset, short_pad}
use Rattle.hunk_words.specs.declared.kinds.Half.{Half}
use Rattle.hunk_words.specs.declared.kinds.Half.TheVariants.{Upper as upper, Lower as lower}
use Rattle.hunk_words.specs.declared.kinds.HunkKind.{HunkKind}
use Rattle.hunk_words.specs.declared.kinds.HunkKind.TheVariants.{Bss}
use Rattle.hunk_words.specs.declared.kinds.BlockType.{BlockType}
use Rattle.hunk_words.specs.declared.kinds.BlockType.TheVariants.{Unit as unit, Name as name, Content as content, Reloc as reloc, Ext as ext, Symbol as symbol, Debug as debug, Short as short}
use Rattle.hunk_words.specs.declared.kinds.EntryType.{EntryType}
use Rattle.hunk_words.specs.declared.kinds.EntryType.TheVariants.{Reference as reference}
use Rattle.hunk_words.specs.Reading.{word_next, WordPasses, Reads}
use Rattle.hunk_words.specs.Kinds.Width.{long, half}
use Rattle.hunk_words.specs.Machine.{due, next, times, short_times, reverse_onto, hunks_due, unit_part, hunk_part, block_part, content_part, entry_tail, push}

-- some number passes under the kind, with this stack below it
abbrev pub Passable : Kind → List Kind → Type 0
Passable object_start s = s ≡ []
Passable unit_type s = s ≡ []
Passable (last_hunk last) s = last < 2 ^ 32
Passable past_end s = ⊥
Passable _ s = Unit {0}

-- some number passes under each kind
abbrev pub Finishable : List Kind → Type 0
Finishable [] = Unit {0}
Finishable (k ∷ s) = Passable k s × Finishable s

-- ---- what is pushed is finishable

finishable-times : (n : ℕ) (k : Kind) (s : List Kind) → ((t : List Kind) → Passable k t) → Finishable s → Finishable (times n k s)
finishable-times zero k s r q = q
finishable-times (suc n) k s r q = (r (times n k s), finishable-times n k s r q)

finishable-words : (n : ℕ) (s : List Kind) → Finishable s → Finishable (times n word s)
finishable-words n s q = finishable-times n word s (λ t. tt) q

finishable-short_times : (n : ℕ) (h : Half) (limit target : ℕ) (s : List Kind) → Finishable s → Finishable (short_times n h limit target s)
finishable-short_times zero h limit target s q = q
finishable-short_times (suc n) h limit target s q = (tt, finishable-short_times n (flip h) limit target s q)

finishable-hunks_due : (last : ℕ) (sizes : List ℕ) (s : List Kind) → Finishable s → Finishable (hunks_due last sizes s)
finishable-hunks_due last [] s q = q
finishable-hunks_due last (size ∷ sizes) s q = (tt, finishable-hunks_due last sizes s q)

finishable-unit_part : (y : BlockType) (b : ℕ) (s : List Kind) → s ≡ [] → Finishable s → Finishable (unit_part y b s)
finishable-unit_part unit b s r q = (tt, (r, q))
finishable-unit_part name b s r q = (tt, (tt, (r, q)))
finishable-unit_part (content c) b s r q = (tt, (r, q))
finishable-unit_part _ b s r q = q

finishable-hunk_part : (w : Within) (y : BlockType) (b : ℕ) (s : List Kind) → Finishable s → Finishable (hunk_part w y b s)
finishable-hunk_part w name b s q = (tt, (tt, q))
finishable-hunk_part w (content c) b s q = (tt, q)
finishable-hunk_part w _ b s q = q

finishable-block_part : (w : Within) (limit : ℕ) (y : BlockType) (s : List Kind) → Finishable s → Finishable (block_part w limit y s)
finishable-block_part w limit reloc s q = (tt, (tt, q))
finishable-block_part w limit ext s q = (tt, (tt, q))
finishable-block_part w limit symbol s q = (tt, (tt, q))
finishable-block_part w limit debug s q = (tt, (tt, q))
finishable-block_part (in_load last size) limit short s q = (tt, (tt, q))
finishable-block_part w limit _ s q = q

finishable-content_part : (w : Within) (c : HunkKind) (n : ℕ) (s : List Kind) → Finishable s → Finishable (content_part w c n s)
finishable-content_part w Bss n s q = (tt, q)
finishable-content_part w _ n s q = finishable-words n _ (tt, q)

finishable-entry_tail : (limit : ℕ) (y : EntryType) (s : List Kind) → Finishable s → Finishable (entry_tail limit y ∷ s)
finishable-entry_tail limit reference s q = (tt, q)
finishable-entry_tail limit _ s q = (tt, q)

pred-below : (n : ℕ) → n < 2 ^ 32 → pred n < 2 ^ 32
pred-below zero h = h
pred-below (suc n) h = omega arith

pub finishable-push : (k : Kind) (n : ℕ) (s : List Kind) → Passes k n → Passable k s → Finishable s → Finishable (push k n s)
finishable-push object_start n s p r q = (tt, (r, q))
finishable-push load_start n s p r q = (tt, (tt, q))
finishable-push unit_type n s p r q = finishable-unit_part (type_of (low n)) (bits n) s r q
finishable-push (hunk_type last size) n s p r q = finishable-hunk_part (in_load last size) (type_of (low n)) (bits n) s q
finishable-push (content_type w) n s p r q = finishable-hunk_part w (type_of (low n)) (bits n) s q
finishable-push (block_type w limit) n s p r q = finishable-block_part w limit (type_of (low n)) s q
finishable-push past_end n s p r q = absurd r
finishable-push unit_length n s p r q = finishable-words n s q
finishable-push name_length n s p r q = finishable-words n s q
finishable-push word n s p r q = q
finishable-push value n s p r q = q
finishable-push (content_size w c b) n s p r q = finishable-content_part w c (low n) s q
finishable-push (reloc_count w limit) zero s p r q = q
finishable-push (reloc_count w limit) (suc n) s p r q = (tt, (tt, q))
finishable-push (hunk_number w limit n) target s p r q = (tt, finishable-times n (offset limit target) s (λ t. tt) q)
finishable-push (offset limit target) n s p r q = q
finishable-push debug_length n s p r q = finishable-words n s q
finishable-push (ext_entry limit) zero s p r q = q
finishable-push (ext_entry limit) (suc n) s p r q = finishable-words (entry_length (suc n)) _ (finishable-entry_tail limit (entry_of (suc n)) _ (tt, q))
finishable-push (ref_count limit) n s p r q = finishable-times n (ref_offset limit) s (λ t. tt) q
finishable-push (ref_offset limit) n s p r q = q
finishable-push symbol_entry zero s p r q = q
finishable-push symbol_entry (suc n) s p r q = (tt, finishable-words n _ (tt, (tt, q)))
finishable-push resident n s p r q = q
finishable-push table_size n s p r q = (tt, (pred-below n p.fits, (tt, q)))
finishable-push first_hunk n s p r q = q
finishable-push (last_hunk last) n s p r q = q
finishable-push (header_size last room zero sizes) n s p r q = finishable-hunks_due last (reverse_onto (low n ∷ sizes) []) s q
finishable-push (header_size last room (suc left) sizes) n s p r q = (tt, q)
finishable-push (short_count upper last limit) zero s p r q = (tt, q)
finishable-push (short_count lower last limit) zero s p r q = q
finishable-push (short_count upper last limit) (suc n) s p r q = (tt, (tt, q))
finishable-push (short_count lower last limit) (suc n) s p r q = (tt, (tt, q))
finishable-push (short_hunk h last limit n) target s p r q = finishable-short_times (suc n) (flip h) limit target s q
finishable-push (short_offset h limit target) n s p r q = q
finishable-push short_pad n s p r q = q

-- ---- along what is read

pub finishable-next : (s : List Kind) (n : ℕ) → Passes (due s) n → Finishable s → Finishable (next s n)
finishable-next [] n p q = tt
finishable-next (k ∷ s) n p q = finishable-push k n s p q.0 q.1

finishable-word : (w : Width) (s : List Kind) (n : ℕ) → WordPasses w s n → Finishable s → Finishable (word_next w s n)
finishable-word long s n p q = finishable-next s n p q
finishable-word (half h) s n p q = finishable-next (next s (n / 2 ^ 16)) (n % 2 ^ 16) p.1 (finishable-next s (n / 2 ^ 16) p.0 q)

pub finishable-reads : (ws : List ℕ) (s m : List Kind) → Reads s ws m → Finishable s → Finishable m
finishable-reads [] s m r q = subst (λ x. Finishable x) r q
finishable-reads (w ∷ ws) s m r q = finishable-reads ws _ m r.1 (finishable-word (width (due s)) s w r.0 q)
