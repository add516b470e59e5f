-- Whatever is expected on a finishable stack can be taken: 0 for what is not a type, 1 for the size
-- of the hunk table, the number of the last hunk, END where it passes, and empty BSS for each hunk
-- that is still missing.
use Rattle.std.proofs.Common.{◌≡◌, ℕ, zero, suc, ◌-◌, ◌^◌, ◌<◌, List, [], ◌∷◌, None, Bool, true, refl, ap, sym, subst, arith}
use Rattle.std.specs.Prelude.{nat_le, ◌==◌}
use Rattle.std.proofs.lemmas.Grind.{common_steps}
use Rattle.hunk_words.specs.Kinds.{Within, Kind, Field, field, low, type_of, flip}
use Rattle.hunk_words.specs.FaultTable.{Passes, reject_unless}
use Rattle.hunk_words.specs.Kinds.Within.{in_unit, in_load}
use Rattle.hunk_words.specs.Kinds.Kind.{object_start, load_start, unit_type, hunk_type, content_type, block_type, past_end, unit_length, name_length, word, value, content_size, reloc_count, hunk_number, offset, debug_length, ext_entry, ref_count, ref_offset, symbol_entry, resident, table_size, first_hunk, last_hunk, header_size, short_count, short_hunk, short_offset, short_pad}
use Rattle.hunk_words.specs.declared.kinds.Half.{Half}
use Rattle.hunk_words.specs.declared.kinds.Half.TheVariants.{Upper as upper, Lower as lower}
use Rattle.hunk_words.specs.declared.kinds.HunkKind.{HunkKind}
use Rattle.hunk_base.specs.declared.fault.Reason.{Reason}
use Rattle.hunk_words.specs.declared.kinds.HunkKind.TheVariants.{Code, Data, Bss}
use Rattle.hunk_words.specs.Machine.{times, short_times, reverse_onto, hunks_due, push, Takes, IsComplete}
use Rattle.hunk_words.proofs.MachineStackLemmas.{Passable, Finishable}

-- fields that the machine takes from this stack up to where a file may end
pub record Finish (s : List Kind) : Type 0 where
  pub fields : List Field
  pub after : List Kind
  pub takes : Takes s fields after
  pub complete : IsComplete after

-- a number that passes under the kind, and a finish after it
pub record Begin (k : Kind) (s : List Kind) : Type 0 where
  pub number : ℕ
  pub passes : Passes k number
  pub behind : Finish (push k number s)

-- the number in front
abbrev pub finish-begin : {k : Kind} {s : List Kind} → Begin k s → Finish (k ∷ s)
finish-begin {k} b = record { fields = field k b.number ∷ b.behind.fields; after = b.behind.after; takes = (refl, b.passes, b.behind.takes); complete = b.behind.complete }

begin : {k : Kind} {s : List Kind} (n : ℕ) → Passes k n → Finish (push k n s) → Begin k s
begin n p b = record { number = n; passes = p; behind = b }

done : (s : List Kind) → IsComplete s → Finish s
done s p = record { fields = []; after = s; takes = refl; complete = p }

-- ---- numbers that pass

reject_unless-true : {b : Bool} (r : Reason) → b ≡ true → reject_unless b r ≡ None
reject_unless-true r h = ap (λ x. reject_unless x r) h

zero-le : (n : ℕ) → nat_le 0 n ≡ true
zero-le n = grind (arith, common_steps)

same : (n : ℕ) → (n == n) ≡ true
same n = grind (arith, common_steps)

end-passes : (w : Within) (limit : ℕ) → Passes (block_type w limit) 1010
unfolding type_of
end-passes in_unit limit = record { fits = omega arith; passes = refl }
end-passes (in_load last size) limit = record { fits = omega arith; passes = refl }

finish-end : (w : Within) (limit : ℕ) (s : List Kind) → Finish s → Begin (block_type w limit) s
unfolding type_of
finish-end in_unit limit s f = begin 1010 (end-passes in_unit limit) f
finish-end (in_load last size) limit s f = begin 1010 (end-passes (in_load last size) limit) f

finish-size : (w : Within) (c : HunkKind) (b : ℕ) (s : List Kind) → Finish s → Begin (content_size w c b) s
finish-size in_unit Code b s f = begin 0 (record { fits = omega arith; passes = refl }) (finish-begin (finish-end in_unit 0 s f))
finish-size in_unit Data b s f = begin 0 (record { fits = omega arith; passes = refl }) (finish-begin (finish-end in_unit 0 s f))
finish-size in_unit Bss b s f = begin 0 (record { fits = omega arith; passes = refl }) (finish-begin (finish-end in_unit 0 s f))
finish-size (in_load last size) Code b s f = begin 0 (record { fits = omega arith; passes = reject_unless-true _ (zero-le size) }) (finish-begin (finish-end (in_load last size) _ s f))
finish-size (in_load last size) Data b s f = begin 0 (record { fits = omega arith; passes = reject_unless-true _ (zero-le size) }) (finish-begin (finish-end (in_load last size) _ s f))
finish-size (in_load last size) Bss b s f = begin 0 (record { fits = omega arith; passes = reject_unless-true _ (zero-le size) }) (finish-begin (finish-end (in_load last size) _ s f))

finish-hunk_type : (last size : ℕ) (s : List Kind) → Finish s → Begin (hunk_type last size) s
unfolding type_of
finish-hunk_type last size s f = begin 1003 (record { fits = omega arith; passes = refl }) (finish-begin (finish-size (in_load last size) Bss 0 s f))

finish-content_type : (w : Within) (s : List Kind) → Finish s → Begin (content_type w) s
unfolding type_of
finish-content_type in_unit s f = begin 1003 (record { fits = omega arith; passes = refl }) (finish-begin (finish-size in_unit Bss 0 s f))
finish-content_type (in_load last size) s f = begin 1003 (record { fits = omega arith; passes = refl }) (finish-begin (finish-size (in_load last size) Bss 0 s f))

finish-unit_type : Begin unit_type []
unfolding type_of
finish-unit_type = begin 999 (record { fits = omega arith; passes = refl }) (finish-begin (begin 0 (record { fits = omega arith; passes = refl }) (done (unit_type ∷ []) tt)))

finish-object_start : Begin object_start []
finish-object_start = begin 999 (record { fits = omega arith; passes = refl }) (finish-begin (begin 0 (record { fits = omega arith; passes = refl }) (done (unit_type ∷ []) tt)))

-- ---- many of a kind

finish-times : (n : ℕ) (k : Kind) (s : List Kind) → ((t : List Kind) → Finish t → Finish (k ∷ t)) → Finish s → Finish (times n k s)
finish-times zero k s one f = f
finish-times (suc n) k s one f = one (times n k s) (finish-times n k s one f)

finish-offset : (limit target : ℕ) (s : List Kind) → Finish s → Finish (offset limit target ∷ s)
finish-offset limit target s f = finish-begin (begin 0 (record { fits = omega arith; passes = refl }) f)

finish-hunk_number : (w : Within) (limit more : ℕ) (s : List Kind) → Finish s → Begin (hunk_number w limit more) s
finish-hunk_number in_unit limit more s f = begin 0 (record { fits = omega arith; passes = refl }) (finish-offset limit 0 _ (finish-times more (offset limit 0) s (finish-offset limit 0) f))
finish-hunk_number (in_load last size) limit more s f = begin 0 (record { fits = omega arith; passes = reject_unless-true _ (zero-le last) }) (finish-offset limit 0 _ (finish-times more (offset limit 0) s (finish-offset limit 0) f))

finish-short_offset : (h : Half) (limit target : ℕ) (s : List Kind) → Finish s → Begin (short_offset h limit target) s
finish-short_offset h limit target s f = begin 0 (record { fits = omega arith; passes = refl }) f

finish-short_times : (n : ℕ) (h : Half) (limit target : ℕ) (s : List Kind) → Finish s → Finish (short_times n h limit target s)
finish-short_times zero h limit target s f = f
finish-short_times (suc n) h limit target s f = finish-begin (finish-short_offset h limit target _ (finish-short_times n (flip h) limit target s f))

finish-hunks_due : (last : ℕ) (sizes : List ℕ) (s : List Kind) → Finish s → Finish (hunks_due last sizes s)
finish-hunks_due last [] s f = f
finish-hunks_due last (size ∷ sizes) s f = finish-begin (finish-hunk_type last size _ (finish-hunks_due last sizes s f))

header_size-passes : (last room left : ℕ) (sizes : List ℕ) → Passes (header_size last room left sizes) 0
header_size-passes last room left sizes = record { fits = omega arith; passes = reject_unless-true _ (zero-le room) }

finish-header_size : (last room left : ℕ) (sizes : List ℕ) (s : List Kind) → Finish s → Begin (header_size last room left sizes) s
finish-header_size last room zero sizes s f = begin 0 (header_size-passes last room zero sizes) (finish-hunks_due last (reverse_onto (0 ∷ sizes) []) s f)
finish-header_size last room (suc left) sizes s f = begin 0 (header_size-passes last room (suc left) sizes) (finish-begin (finish-header_size last (room - low 0) left (low 0 ∷ sizes) s f))

finish-last_hunk : (last : ℕ) (s : List Kind) → last < 2 ^ 32 → Finish s → Begin (last_hunk last) s
finish-last_hunk last s h f = begin last (record { fits = h; passes = reject_unless-true _ (same last) }) f

finish-table_size : (s : List Kind) → Finish s → Begin table_size s
finish-table_size s f = begin 1 (record { fits = omega arith; passes = refl }) (finish-begin (begin 0 (record { fits = omega arith; passes = refl })
    (finish-begin (finish-last_hunk 0 _ (omega arith) (finish-begin (finish-header_size 0 (2 ^ 24) 0 [] s f))))))

-- ---- every kind

finish-kind : (k : Kind) (s : List Kind) → Passable k s → Finish s → Begin k s
finish-kind object_start s r f = subst (λ t. Begin object_start t) (sym r) finish-object_start
finish-kind load_start s r f = begin 1011 (record { fits = omega arith; passes = refl }) (finish-begin (begin 0 (record { fits = omega arith; passes = refl }) (finish-begin (finish-table_size s f))))
finish-kind unit_type s r f = subst (λ t. Begin unit_type t) (sym r) finish-unit_type
finish-kind (hunk_type last size) s r f = finish-hunk_type last size s f
finish-kind (content_type w) s r f = finish-content_type w s f
finish-kind (block_type w limit) s r f = finish-end w limit s f
finish-kind past_end s r f = absurd r
finish-kind unit_length s r f = begin 0 (record { fits = omega arith; passes = refl }) f
finish-kind name_length s r f = begin 0 (record { fits = omega arith; passes = refl }) f
finish-kind word s r f = begin 0 (record { fits = omega arith; passes = refl }) f
finish-kind value s r f = begin 0 (record { fits = omega arith; passes = refl }) f
finish-kind (content_size w c b) s r f = finish-size w c b s f
finish-kind (reloc_count w limit) s r f = begin 0 (record { fits = omega arith; passes = refl }) f
finish-kind (hunk_number w limit n) s r f = finish-hunk_number w limit n s f
finish-kind (offset limit target) s r f = begin 0 (record { fits = omega arith; passes = refl }) f
finish-kind debug_length s r f = begin 0 (record { fits = omega arith; passes = refl }) f
finish-kind (ext_entry limit) s r f = begin 0 (record { fits = omega arith; passes = refl }) f
finish-kind (ref_count limit) s r f = begin 0 (record { fits = omega arith; passes = refl }) f
finish-kind (ref_offset limit) s r f = begin 0 (record { fits = omega arith; passes = refl }) f
finish-kind symbol_entry s r f = begin 0 (record { fits = omega arith; passes = refl }) f
finish-kind resident s r f = begin 0 (record { fits = omega arith; passes = refl }) f
finish-kind table_size s r f = finish-table_size s f
finish-kind first_hunk s r f = begin 0 (record { fits = omega arith; passes = refl }) f
finish-kind (last_hunk last) s r f = finish-last_hunk last s r f
finish-kind (header_size last room left sizes) s r f = finish-header_size last room left sizes s f
finish-kind (short_count upper last limit) s r f = begin 0 (record { fits = omega arith; passes = refl }) (finish-begin (begin 0 (record { fits = omega arith; passes = refl }) f))
finish-kind (short_count lower last limit) s r f = begin 0 (record { fits = omega arith; passes = refl }) f
finish-kind (short_hunk h last limit n) s r f = begin 0 (record { fits = omega arith; passes = reject_unless-true _ (zero-le last) }) (finish-short_times (suc n) (flip h) limit 0 s f)
finish-kind (short_offset h limit target) s r f = finish-short_offset h limit target s f
finish-kind short_pad s r f = begin 0 (record { fits = omega arith; passes = refl }) f

-- a finishable stack has a finish
pub finish-stack : (s : List Kind) → Finishable s → Finish s
finish-stack [] q = done [] tt
finish-stack (k ∷ s) q = finish-begin (finish-kind k s q.0 (finish-stack s q.1))

-- and one with a number in front, if anything is expected
pub begin-stack : (k : Kind) (s : List Kind) → Finishable (k ∷ s) → Begin k s
begin-stack k s q = finish-kind k s q.0 (finish-stack s q.1)
