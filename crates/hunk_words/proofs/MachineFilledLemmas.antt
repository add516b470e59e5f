-- What is taken up to where a file may end is filled: an induction on the fields.
use Rattle.std.proofs.Common.{◌≡◌, ℕ, zero, suc, ◌≤◌, List, [], ◌∷◌, true, nat_le, ◌&&◌, refl, ap, sym, subst, ◌∙◌, arith}
use Rattle.std.proofs.lemmas.Grind.{common_steps}
use Rattle.hunk_words.specs.Kinds.{Kind, Field, field, low, bits, type_of, entry_of}
use Rattle.hunk_words.specs.FaultTable.{Passes}
use Rattle.hunk_words.specs.Kinds.Within.{in_unit, in_load}
use Rattle.hunk_words.specs.Kinds.Kind.{object_start, load_start, unit_type, hunk_type, content_type, block_type, past_end, unit_length, name_length, word, value, content_size, reloc_count, hunk_number, offset, debug_length, ext_entry, ref_count, ref_offset, symbol_entry, resident, table_size, first_hunk, last_hunk, header_size, short_count, short_hunk, short_offset, short_pad}
use Rattle.hunk_words.specs.declared.kinds.Half.TheVariants.{Upper as upper, Lower as lower}
use Rattle.hunk_words.specs.Machine.{push, Takes, IsComplete}
use Rattle.hunk_words.specs.Trees.{ObjectTree, LoadTree}
use Rattle.hunk_words.specs.Spelling.{object_spelling, load_spelling}
use Rattle.hunk_words.proofs.FaultTableLemmas.{reject_unless-number, and_then-first, reject_unless-none, type-is, entry-is, type_longword-whole}
use Rattle.hunk_words.proofs.MachineFilled.{Filled, filled, Begun}
use Rattle.hunk_words.proofs.MachineFilledPartLemmas.{HunkBegun, lengths-of-times, build-reloc_count, build-hunk_number, build-short_count, build-short_hunk, build-ref_count, build-symbol_entry, build-entry, build-block, build-content_type, build-hunk, build-unit_type, build-content_size, build-header_size, build-table_size, build-load_start}

table-positive : (n : ℕ) → (nat_le 1 n && nat_le n 65535) ≡ true → 1 ≤ n
table-positive n h = grind (arith, common_steps)

-- A kind whose number passes begins what it makes expected and what that begins.
pub build : (k : Kind) (n : ℕ) (s : List Kind) → Passes k n → (x : Filled (push k n s)) → Begun k n s (filled (push k n s) x)
build object_start n s p x = (
  (record { first = record { type_bits = bits n; name = x.0; hunks = x.1.0.0 }; others = x.1.0.1 }, x.1.1),
  ap (λ q. field object_start q ∷ filled (push object_start n s) x) (type_longword-whole n 999 (reject_unless-number (low n) 999 _ p.passes)),
)
build load_start n s p x = build-load_start n s (reject_unless-number (low n) 1011 _ p.passes) x
build unit_type n s p x = build-unit_type n s (type_of (low n)) (type-is (low n)) (reject_unless-none _ _ (and_then-first _ _ p.passes)) x
build (hunk_type last size) n s p x =
    let r : HunkBegun (hunk_type last size) (in_load last size) n s (filled (push (hunk_type last size) n s) x) = build-hunk (hunk_type last size) (in_load last size) n s (type_of (low n)) (type-is (low n)) (reject_unless-none _ _ p.passes) x in
    ((r.0, r.1), r.2)
build (content_type in_unit) n s p x = build-content_type in_unit n s (type_of (low n)) (type-is (low n)) (reject_unless-none _ _ (and_then-first _ _ p.passes)) x
build (content_type (in_load last size)) n s p x = build-content_type (in_load last size) n s (type_of (low n)) (type-is (low n)) (reject_unless-none _ _ p.passes) x
build (block_type w limit) n s p x = build-block w limit n s (type_of (low n)) (type-is (low n)) (reject_unless-none _ _ p.passes) x
build past_end n s p x = let never = p.passes in absurd (cc)
build unit_length n s p x = let r = lengths-of-times unit_length n s x in ((r.0, r.1), r.2)
build name_length n s p x = let r = lengths-of-times name_length n s x in ((r.0, r.1), r.2)
build word n s p x = ((n, x), refl)
build value n s p x = ((n, x), refl)
build (content_size w c b) n s p x = build-content_size w c b n s x
build (reloc_count w limit) n s p x = build-reloc_count w limit n s x
build (hunk_number w limit more) n s p x = build-hunk_number w limit more n s x
build (offset limit target) n s p x = ((n, x), refl)
build debug_length n s p x = let r = lengths-of-times debug_length n s x in ((r.0, r.1), r.2)
build (ext_entry limit) zero s p x = (([], x), refl)
build (ext_entry limit) (suc n) s p x = build-entry limit n s (entry_of (suc n)) (entry-is (suc n)) (reject_unless-none _ _ p.passes) x
build (ref_count limit) n s p x = build-ref_count limit n s x
build (ref_offset limit) n s p x = ((n, x), refl)
build symbol_entry n s p x = build-symbol_entry n s x
build resident n s p x = ((tt, x), ap (λ q. field resident q ∷ filled s x) (sym (reject_unless-number n 0 _ p.passes)))
build table_size n s p x = build-table_size n s (table-positive n (reject_unless-none _ _ p.passes)) x
build first_hunk n s p x = ((tt, x), ap (λ q. field first_hunk q ∷ filled s x) (sym (reject_unless-number n 0 _ p.passes)))
build (last_hunk last) n s p x = ((tt, x), ap (λ q. field (last_hunk last) q ∷ filled s x) (sym (reject_unless-number n last _ p.passes)))
build (header_size last room left sizes) n s p x = build-header_size last room left sizes n s x
build (short_count upper last limit) zero s p x = ((([], x.0), x.1), refl)
build (short_count lower last limit) zero s p x = ((([], 0), x), refl)
build (short_count upper last limit) (suc n) s p x = build-short_count upper last limit n s x
build (short_count lower last limit) (suc n) s p x = build-short_count lower last limit n s x
build (short_hunk h last limit more) n s p x = build-short_hunk h last limit more n s x
build (short_offset h limit target) n s p x = ((n, x), refl)
build short_pad n s p x = ((n, x), refl)

-- where a file may end, all is filled
filled-complete : (e : List Kind) → IsComplete e → (x : Filled e) × (filled e x ≡ [])
filled-complete [] c = (tt, refl)
filled-complete (unit_type ∷ []) c = ((([], []), tt), refl)
filled-complete _ c = absurd c

pub filled-of-takes : (fs : List Field) (s e : List Kind) → Takes s fs e → IsComplete e → (x : Filled s) × (filled s x ≡ fs)
filled-of-takes [] s e t c = subst (λ q. (x : Filled q) × (filled q x ≡ [])) (sym t) (filled-complete e c)
filled-of-takes (f ∷ fs) [] e t c = absurd t
filled-of-takes (f ∷ fs) (k ∷ s) e t c =
    let r : (x : Filled (push k f.number s)) × (filled (push k f.number s) x ≡ fs) = filled-of-takes fs (push k f.number s) e t.2 c in
    let b : Begun k f.number s (filled (push k f.number s) r.0) = build k f.number s t.1 r.0 in
    (b.0, b.1 ∙ (ap (λ q. field k f.number ∷ q) r.1 ∙ ap (λ q. field q f.number ∷ fs) (sym t.0)))

-- ---- files

pub object-of-takes : (fs : List Field) (e : List Kind) → Takes (object_start ∷ []) fs e → IsComplete e → (t : ObjectTree) × (object_spelling t ≡ fs)
object-of-takes fs e t c =
    let r : (x : Filled (object_start ∷ [])) × (filled (object_start ∷ []) x ≡ fs) = filled-of-takes fs (object_start ∷ []) e t c in
    (r.0.0, r.1)

pub load-of-takes : (fs : List Field) (e : List Kind) → Takes (load_start ∷ []) fs e → IsComplete e → (t : LoadTree) × (load_spelling t ≡ fs)
load-of-takes fs e t c =
    let r : (x : Filled (load_start ∷ [])) × (filled (load_start ∷ []) x ≡ fs) = filled-of-takes fs (load_start ∷ []) e t c in
    (r.0.0, r.1)
