-- Reading one more input, and stopping at it.
use Rattle.std.proofs.Common.{add-one, ◌≡◌, ℕ, ◌+◌, ◌<◌, List, [], ◌∷◌, ◌++◌, length, get_or, set, take, drop, Option, Bool, IsTrue, refl, ap, ◌∙◌, min, arith}
use Rattle.std.specs.List.{zip}
use Rattle.std.proofs.lemmas.List.{drop-set-lt, drop_more, length-map, length-take, set_split, take-append-drop, take_more, take_more_set}
use Rattle.std.proofs.lemmas.Slice.Zip.{length-zip}
use Rattle.hunk_base.specs.Streams.{HasRead}
use Rattle.hunk_words.specs.Decoder.{RefusesRead}
use Rattle.hunk_words.specs.declared.event.FileKind.TheVariants.{Object}
use Rattle.hunk_base.specs.declared.fault.ReadFault.{ReadFault}
use Rattle.hunk_base.specs.declared.fault.ReadFault.TheVariants as read_fault
use Rattle.hunk_base.specs.declared.fault.Refusal.TheVariants as refusal_is
use Rattle.hunk_objects.specs.ProgramUnit.{ObjectUnit}
use Rattle.hunk_tool.specs.Inputs.{AreObjects, HaveRead, Input, IsInputFault, IsRefusedAt, WasRead, WereRead, inputs_of}
use Rattle.hunk_tool.specs.ToolFault.{tool_fault_of_read}

-- ---- the files

WereRead-more : (inputs : List Input) (files : List (List ℕ)) (input : Input) (bytes : List ℕ) → WereRead inputs files → WasRead input bytes → WereRead (inputs ++ input ∷ []) (files ++ bytes ∷ [])
WereRead-more [] [] input bytes were was = (was, tt)
WereRead-more [] (file ∷ files) input bytes were was = absurd were
WereRead-more (first ∷ inputs) [] input bytes were was = absurd were
WereRead-more (first ∷ inputs) (file ∷ files) input bytes were was = (were.0, WereRead-more inputs files input bytes were.1 was)

length-WereRead : (inputs : List Input) (files : List (List ℕ)) → WereRead inputs files → length files ≡ length inputs
length-WereRead [] [] were = refl
length-WereRead [] (file ∷ files) were = absurd were
length-WereRead (input ∷ inputs) [] were = absurd were
length-WereRead (input ∷ inputs) (file ∷ files) were = omega (arith, length-WereRead inputs files were.1)

-- One more input was read, and what holds with it is known.
HaveRead-more : (inputs : List Input) (input : Input) (P Q : List (List ℕ) → Type 0) (Holds : List ℕ → Type 0)
    → ((files : List (List ℕ)) (bytes : List ℕ) → length files ≡ length inputs → P files → Holds bytes → Q (files ++ bytes ∷ []))
    → HaveRead inputs P → HasRead input.left input.left_then Holds → IsTrue input.ended → HaveRead (inputs ++ input ∷ []) Q
HaveRead-more inputs input P Q Holds more have has ended = record {
  files = have.files ++ has.bytes ∷ [];
  were_read = WereRead-more inputs have.files input has.bytes have.were_read (record { consumed = has.consumed; ended = ended });
  holds = more have.files has.bytes (length-WereRead inputs have.files have.were_read) have.holds has.holds;
}

-- ---- the readers, of which the inputs are told

inputs_of-append : {R : Type 0} (left : R → Option (List ℕ)) (failed ended : R → Bool) (olds news old_rest new_rest : List R) → length olds ≡ length news
    → inputs_of left failed ended (olds ++ old_rest) (news ++ new_rest) ≡ inputs_of left failed ended olds news ++ inputs_of left failed ended old_rest new_rest
inputs_of-append left failed ended [] [] old_rest new_rest same = refl
inputs_of-append left failed ended [] (new ∷ news) old_rest new_rest same = absurd (omega (arith, same))
inputs_of-append left failed ended (old ∷ olds) [] old_rest new_rest same = absurd (omega (arith, same))
inputs_of-append left failed ended (old ∷ olds) (new ∷ news) old_rest new_rest same =
    let input : Input = record { left = left old; left_then = left new; failed = failed new; ended = ended new } in
    ap (λ (inputs : List Input). input ∷ inputs) (inputs_of-append left failed ended olds news old_rest new_rest (omega (arith, same)))

pub length-inputs_of : {R : Type 0} (left : R → Option (List ℕ)) (failed ended : R → Bool) (olds news : List R) → length (inputs_of left failed ended olds news) ≡ min (length olds) (length news)
length-inputs_of {R = R} left failed ended olds news =
    let tell : R × R → Input = λ reader. record { left = left reader.0; left_then = left reader.1; failed = failed reader.1; ended = ended reader.1 } in
    length-map (zip olds news) tell ∙ length-zip olds news

-- a reader that is as it was until it is read
same_reader : {R : Type 0} (olds nows : List R) (count : ℕ) (reader : R) → count < length olds → length nows ≡ length olds → drop count nows ≡ drop count olds → get_or nows count reader ≡ get_or olds count reader
same_reader olds nows count reader within same rest =
    let now = drop_more nows count reader (omega arith) in let old = drop_more olds count reader within in cc

-- The readers behind it are still as they were.
pub rest_more : {R : Type 0} (olds nows : List R) (count : ℕ) (reader : R) → count < length olds → length nows ≡ length olds → drop count nows ≡ drop count olds → drop (count + 1) (set nows count reader) ≡ drop (count + 1) olds
rest_more olds nows count reader within same rest =
    let now = drop_more nows count reader (omega arith) in let old = drop_more olds count reader within in
    let behind : drop (count + 1) nows ≡ drop (count + 1) olds = cc in
    drop-set-lt (count + 1) nows count reader (omega arith) ∙ behind

-- ---- one more

-- The reader with this number has been read too: it was one of the others.
pub HaveRead-next : {R : Type 0} (left : R → Option (List ℕ)) (failed ended : R → Bool) (olds nows : List R) (count : ℕ) (reader new : R) (P Q : List (List ℕ) → Type 0) (Holds : List ℕ → Type 0)
    → ((files : List (List ℕ)) (bytes : List ℕ) → length files ≡ count → P files → Holds bytes → Q (files ++ bytes ∷ []))
    → count < length olds → length nows ≡ length olds → drop count nows ≡ drop count olds
    → HaveRead (inputs_of left failed ended (take count olds) (take count nows)) P → HasRead (left (get_or nows count reader)) (left new) Holds → IsTrue (ended new)
    → HaveRead (inputs_of left failed ended (take (count + 1) olds) (take (count + 1) (set nows count new))) Q
HaveRead-next {R = R} left failed ended olds nows count reader new P Q Holds more within same rest have has at_end =
    let old : R = get_or nows count reader in
    let input : Input = record { left = left old; left_then = left new; failed = failed new; ended = ended new } in
    let old_is : take (count + 1) olds ≡ take count olds ++ old ∷ [] = let was = take_more olds count reader within in let e = same_reader olds nows count reader within same rest in cc in
    let inputs_are : inputs_of left failed ended (take count olds ++ old ∷ []) (take count nows ++ new ∷ []) ≡ inputs_of left failed ended (take count olds) (take count nows) ++ input ∷ [] =
    inputs_of-append left failed ended (take count olds) (take count nows) (old ∷ []) (new ∷ []) (omega (arith, length-take count olds, length-take count nows)) in
    let counted : length (inputs_of left failed ended (take count olds) (take count nows)) ≡ count =
    omega (arith, length-inputs_of left failed ended (take count olds) (take count nows), length-take count olds, length-take count nows) in
    rw (old_is, take_more_set nows count new (omega arith), inputs_are)
    (HaveRead-more (inputs_of left failed ended (take count olds) (take count nows)) input P Q Holds (λ files bytes all. more files bytes (all ∙ counted)) have has at_end)

-- ---- the first that is not read

refused_at : {R : Type 0} (left : R → Option (List ℕ)) (failed ended : R → Bool) (olds nows : List R) (count : ℕ) (reader new : R) (units : List ObjectUnit) (fault : ReadFault)
    → count < length olds → length nows ≡ length olds → drop count nows ≡ drop count olds
    → HaveRead (inputs_of left failed ended (take count olds) (take count nows)) (λ files. AreObjects files units)
    → RefusesRead Object (left (get_or nows count reader)) (left new) (ended new) (failed new) fault → IsRefusedAt (inputs_of left failed ended olds (set nows count new)) count fault
refused_at {R = R} left failed ended olds nows count reader new units fault within same rest have refused =
    let old : R = get_or nows count reader in
    let input : Input = record { left = left old; left_then = left new; failed = failed new; ended = ended new } in
    let rest_old : List R = drop (count + 1) olds in let rest_new : List R = drop (count + 1) nows in
    let tell : List R → List R → List Input = inputs_of left failed ended in
    let olds_are : olds ≡ take count olds ++ old ∷ rest_old =
    let parts = take-append-drop count olds in let first = drop_more olds count reader within in let e = same_reader olds nows count reader within same rest in cc in
    let news_are : set nows count new ≡ take count nows ++ new ∷ rest_new = rw add-one (set_split nows count new (omega arith)) in
    let taken = length-take count olds in let taken_now = length-take count nows in
    record {
      before = tell (take count olds) (take count nows);
      input = input;
      after = tell rest_old rest_new;
      among =
          ap (λ (all : List R). tell all (set nows count new)) olds_are
          ∙ ap (λ (all : List R). tell (take count olds ++ old ∷ rest_old) all) news_are
          ∙ inputs_of-append left failed ended (take count olds) (take count nows) (old ∷ rest_old) (new ∷ rest_new) (omega arith);
      number = omega (arith, length-inputs_of left failed ended (take count olds) (take count nows));
      earlier = record { files = have.files; were_read = have.were_read; holds = (units, have.holds) };
      refused = refused;
    }

pub IsInputFault-first : (A : Type 0) {R : Type 0} (left : R → Option (List ℕ)) (failed ended : R → Bool) (olds nows : List R) (count : ℕ) (reader new : R) (units : List ObjectUnit) (fault : ReadFault)
    → count < length olds → length nows ≡ length olds → drop count nows ≡ drop count olds
    → HaveRead (inputs_of left failed ended (take count olds) (take count nows)) (λ files. AreObjects files units)
    → RefusesRead Object (left (get_or nows count reader)) (left new) (ended new) (failed new) fault
    → IsInputFault (inputs_of left failed ended olds (set nows count new)) (tool_fault_of_read {A = A} count fault)
IsInputFault-first A left failed ended olds nows count reader new units (read_fault.Refused (refusal_is.Fault fault)) within same rest have refused =
    refused_at left failed ended olds nows count reader new units (read_fault.Refused (refusal_is.Fault fault)) within same rest have refused
IsInputFault-first A left failed ended olds nows count reader new units (read_fault.Refused refusal_is.OutOfMemory) within same rest have refused = refl
IsInputFault-first A left failed ended olds nows count reader new units read_fault.Device within same rest have refused =
    refused_at left failed ended olds nows count reader new units read_fault.Device within same rest have refused

-- ---- what holds of the files

pub HaveRead-weaker : (inputs : List Input) (P Q : List (List ℕ) → Type 0) → ((files : List (List ℕ)) → P files → Q files) → HaveRead inputs P → HaveRead inputs Q
HaveRead-weaker inputs P Q weaker read = record { files = read.files; were_read = read.were_read; holds = weaker read.files read.holds }
