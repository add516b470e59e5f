-- The hunks that are expected after a hunk, and after a header.
use Rattle.std.proofs.Common.{◌≡◌, ℕ, suc, ◌+◌, ◌<◌, ◌≤◌, List, [], ◌∷◌, ◌++◌, drop, length, reverse, slice_index, Some, Ok, refl, sym, ap, ◌∙◌, append_assoc, length-append, add-one, arith, rules, tests}
use Rattle.std.proofs.Math.Seq.{drop-cons}
use Rattle.std.proofs.lemmas.List.{reverse-reverse}
use Rattle.std.proofs.lemmas.Grind.{reverse_onto as reverse_cons}
use Rattle.hunk_words.specs.Kinds.{low, bits}
use Rattle.hunk_words.specs.Kinds.Kind.{hunk_type}
use Rattle.hunk_words.specs.Machine.{reverse_onto, hunks_due}
use Rattle.hunk_words.specs.State.{EndsHunk, StepsFrom}
use Rattle.hunk_words.specs.declared.event.Event.TheVariants.{HunkEnd, HunkSize}
use Rattle.hunk_words.specs.declared.event.FileKind.{FileKind}
use Rattle.hunk_words.specs.declared.event.FileKind.TheVariants.{Object, Load}
use Rattle.hunk_words.specs.declared.state.Expected.{Expected}
use Rattle.hunk_words.specs.declared.state.State.{State}
use Rattle.hunk_words.specs.declared.state.Expected.TheVariants.{HunkType, HeaderSize}

-- the hunks from h on are hunk h and those after it
pub hunks_due-drop : (last h : ℕ) (sizes : List ℕ) → h < length sizes
    → hunk_type last (slice_index sizes h) ∷ hunks_due last (drop (suc h) sizes) [] ≡ hunks_due last (drop h sizes) []
hunks_due-drop last h sizes within = ap (λ ys. hunks_due last ys []) (sym (drop-cons sizes h 0 within))

pub reverse_onto-reverse : (xs ys : List ℕ) → reverse_onto xs ys ≡ reverse xs ++ ys
reverse_onto-reverse [] ys = refl
reverse_onto-reverse (x ∷ xs) ys = reverse_onto-reverse xs (x ∷ ys) ∙ sym (append_assoc (reverse xs) (x ∷ []) ys) ∙ ap (λ zs. zs ++ ys) (sym (reverse_cons xs x []))

-- the sizes in a header, read in order
pub reverse_onto-read : (sizes : List ℕ) (size : ℕ) → reverse_onto (size ∷ reverse sizes) [] ≡ sizes ++ size ∷ []
reverse_onto-read sizes size = reverse_onto-reverse (reverse sizes) (size ∷ []) ∙ ap (λ xs. xs ++ size ∷ []) (reverse-reverse sizes)

-- After a header its first hunk is expected.
pub hunks_due-header : (last size : ℕ) (sizes : List ℕ)
    → hunk_type last (slice_index (sizes ++ size ∷ []) 0) ∷ hunks_due last (drop 1 (sizes ++ size ∷ [])) [] ≡ hunks_due last (reverse_onto (size ∷ reverse sizes) []) []
hunks_due-header last size sizes =
    hunks_due-drop last 0 (sizes ++ size ∷ []) (omega (arith, length-append sizes (size ∷ [])))
    ∙ ap (λ ys. hunks_due last ys []) (sym (reverse_onto-read sizes size))

-- After a hunk that is not the last, the next one is expected.
pub EndsHunk-next : (due : Expected) (file : FileKind) (last hunk limit : ℕ) → file ≡ Load → hunk < last
    → EndsHunk (record { due = due; file = file; last = last; hunk = hunk; limit = limit })
    (Ok (record { state = record { due = HunkType; file = file; last = last; hunk = hunk + 1; limit = limit }; event = Some HunkEnd }))
EndsHunk-next due Object last hunk limit is_load within = absurd cc
EndsHunk-next due Load last hunk limit is_load within =
    (refl, λ sizes known. (rw add-one (hunks_due-drop last (suc hunk) sizes (omega arith)), refl, record { due_in = refl; sizes_in = (known.0, omega arith) }))

-- The last size in a header is taken: the first hunk is expected.
pub StepsFrom-header : (file : FileKind) (last hunk limit room n : ℕ) → bits n < 3 → low n ≤ room
    → let s : State = record { due = HunkType; file = file; last = last; hunk = hunk; limit = limit } in
    StepsFrom s (HeaderSize room 0) n (Ok (record { state = record s { hunk = 0 }; event = Some (HunkSize (bits n) (low n)) }))
StepsFrom-header Object last hunk limit room n few fits = λ sizes is_state. let is_load = is_state.due_in in absurd cc
StepsFrom-header Load last hunk limit room n few fits = λ sizes is_state. record {
  passes = search (rules, tests);
  tells = refl;
  goes = hunks_due-header last (low n) sizes;
  same_file = refl;
  is_state = record { due_in = refl; sizes_in = (omega (arith, is_state.sizes_in, length-append sizes (low n ∷ [])), omega arith) };
}
