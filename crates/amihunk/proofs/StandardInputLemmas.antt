-- Arguments that are `-`, and the names that they stand for.
use Rattle.std.proofs.Common.{All, ◌≡◌, ◌<◌, ◌≤◌, ◌+◌, ◌++◌, ◌∷◌, ◌∙◌, ℕ, zero, suc, Bool, true, false, List, [], Option, Some, None, ap, ap₂, append-nil, arith, cond, drop, get_or, length, map, refl, set, subst, sym, take}
use Rattle.std.specs.Borrow.{Bor}
use Rattle.std.specs.Prelude.{nat_lt, option_map}
use Rattle.std.specs.List.{filter}
use Rattle.std.proofs.lemmas.List.{drop_all, length-append, take_all}
use Rattle.std.proofs.lemmas.List.Elements.{All-head, All-tail, filter-append}
use Rattle.std.proofs.lemmas.Bool.{ne_eqb}
use Rattle.clap.specs.Walk.{texts}
use Rattle.clap.specs.Words.{Text}
use Rattle.hunk_store.specs.Addresses.AddressSource.{in_file, in_list}
use Rattle.hunk_store.specs.FileList.{NamedList}
use Rattle.amihunk.specs.Call.{Call, IsFound, Meaning}
use Rattle.amihunk.specs.Call.Meaning.{calls, help, nothing, rejection, version}
use Rattle.amihunk.specs.Call.Call.{conflict, to_check, to_compare, to_copy, to_image, to_link, to_load, to_names, to_show, to_survey}
use Rattle.amihunk.specs.CommandLine.{IsNoFlag}
use Rattle.amihunk.specs.StandardInput.{IsMade, has_hyphens, input_list, input_name, inputs_of, is_hyphen, made_call, named_call}

-- ---- names, one after another

-- the first of the arguments are names
abbrev pub named_to : ℕ → List Text → List Text
named_to count arguments = map input_name (take count arguments) ++ drop count arguments

-- and so is the next one
pub named_to-more : (arguments : List Text) (so_far : List (Bor Text)) (i : ℕ) (d new : Bor Text) → i < length arguments
    → texts so_far ≡ named_to i arguments → new.now ≡ input_name (get_or so_far i d).now → texts (set so_far i new) ≡ named_to (suc i) arguments
named_to-more [] so_far i d new low is named = absurd (omega arith)
named_to-more (x ∷ xs) [] zero d new low is named = cc
named_to-more (x ∷ xs) (y ∷ ys) zero d new low is named =
    let first : y.now ≡ x = cc in
    let rest : texts ys ≡ xs = cc in
    ap₂ (λ a b. a ∷ b) (named ∙ ap input_name first) rest
named_to-more (x ∷ xs) [] (suc i) d new low is named = cc
named_to-more (x ∷ xs) (y ∷ ys) (suc i) d new low is named =
    let first : y.now ≡ input_name x = cc in
    let rest : texts ys ≡ named_to i xs = cc in
    ap₂ (λ a b. a ∷ b) first (named_to-more xs ys i d new (omega arith) rest named)

pub named_to-all : (arguments : List Text) (count : ℕ) → length arguments ≤ count → named_to count arguments ≡ map input_name arguments
named_to-all arguments count all = rw (take_all count arguments all, drop_all count arguments all) (append-nil (map input_name arguments))

-- ---- how many are `-`

pub hyphens-texts : (arguments : List (Bor Text)) → length (filter (λ it. is_hyphen it.now) arguments) ≡ length (filter is_hyphen (texts arguments))
hyphens-texts [] = refl
hyphens-texts (x ∷ xs) = go (is_hyphen x.now) (hyphens-texts xs)
  where
    go : (b : Bool) → length (filter (λ it. is_hyphen it.now) xs) ≡ length (filter is_hyphen (texts xs))
        → length (cond b (x ∷ filter (λ it. is_hyphen it.now) xs) (filter (λ it. is_hyphen it.now) xs)) ≡ length (cond b (x.now ∷ filter is_hyphen (texts xs)) (filter is_hyphen (texts xs)))
    go true same = ap suc same
    go false same = same

-- among some arguments and the files
pub two_hyphens : (one first : List Text) (slice files : List (Bor Text)) (number : ℕ) → one ≡ first → slice ≡ files
    → number ≡ length (filter (λ it. is_hyphen it.now) slice) → nat_lt 1 (length (filter is_hyphen one) + number) ≡ has_hyphens (first ++ texts files)
two_hyphens one first slice files number is same counted =
    rw (filter-append is_hyphen first (texts files), length-append (filter is_hyphen first) (filter is_hyphen (texts files)), ← hyphens-texts files)
    (ap₂ (λ before after. nat_lt 1 (length (filter is_hyphen before) + after)) is (counted ∙ ap (λ arguments. length (filter (λ it. is_hyphen it.now) arguments)) same))

-- ---- arguments that do not begin with a hyphen

no_hyphen : (argument : Text) → IsNoFlag argument → is_hyphen argument ≡ false
no_hyphen [] plain = refl
no_hyphen (c ∷ rest) plain = rw (ne_eqb c 45 plain) refl

pub plain_name : (argument : Text) → IsNoFlag argument → input_name argument ≡ argument
plain_name argument plain = rw (no_hyphen argument plain) refl

pub plain_names : (arguments : List Text) → All IsNoFlag arguments → map input_name arguments ≡ arguments
plain_names [] plain = refl
plain_names (x ∷ xs) plain = ap₂ (λ a b. a ∷ b) (plain_name x (All-head IsNoFlag x xs plain)) (plain_names xs (All-tail IsNoFlag x xs plain))

no_hyphens : (arguments : List Text) → All IsNoFlag arguments → filter is_hyphen arguments ≡ []
no_hyphens [] plain = refl
no_hyphens (x ∷ xs) plain = rw (no_hyphen x (All-head IsNoFlag x xs plain)) (no_hyphens xs (All-tail IsNoFlag x xs plain))

plain_list : (list : NamedList) → IsNoFlag list.file → input_list list ≡ list
plain_list list plain = ap (λ file. record list { file = file }) (plain_name list.file plain)

-- such a call is made as it is written
named_plain : (call : Call) → All IsNoFlag (inputs_of call) → named_call call ≡ call
named_plain (to_link out map_file options globals explain files None) plain = ap (λ fs. to_link out map_file options globals explain fs None) (plain_names files plain)
named_plain (to_link out map_file options globals explain files (Some list)) plain =
    ap₂ (λ fs l. to_link out map_file options globals explain fs (Some l)) (plain_names files (All-tail IsNoFlag list.file files plain)) (plain_list list (All-head IsNoFlag list.file files plain))
named_plain (to_load (in_list list) text explain file) plain = ap (to_load (in_list list) text explain) (plain_name file (All-head IsNoFlag file [] plain))
named_plain (to_load (in_file name) text explain file) plain =
    ap₂ (λ n f. to_load (in_file n) text explain f) (plain_name name (All-head IsNoFlag name (file ∷ []) plain))
    (plain_name file (All-head IsNoFlag file [] (All-tail IsNoFlag name (file ∷ []) plain)))
named_plain (to_image (in_list list) text explain files) plain = ap (to_image (in_list list) text explain) (plain_names files plain)
named_plain (to_image (in_file name) text explain files) plain =
    ap₂ (λ n fs. to_image (in_file n) text explain fs) (plain_name name (All-head IsNoFlag name files plain)) (plain_names files (All-tail IsNoFlag name files plain))
named_plain (to_check lint explain file) plain = ap (to_check lint explain) (plain_name file (All-head IsNoFlag file [] plain))
named_plain (to_show text explain file) plain = ap (to_show text explain) (plain_name file (All-head IsNoFlag file [] plain))
named_plain (to_names files) plain = ap to_names (plain_names files plain)
named_plain (to_survey options files None) plain = ap (λ fs. to_survey options fs None) (plain_names files plain)
named_plain (to_survey options files (Some list)) plain =
    ap₂ (λ fs l. to_survey options fs (Some l)) (plain_names files (All-tail IsNoFlag list.file files plain)) (plain_list list (All-head IsNoFlag list.file files plain))
named_plain (to_copy out form explain file) plain = ap (to_copy out form explain) (plain_name file (All-head IsNoFlag file [] plain))
named_plain (to_compare with_symbols first second) plain =
    ap₂ (to_compare with_symbols) (plain_name first (All-head IsNoFlag first (second ∷ []) plain))
    (plain_name second (All-head IsNoFlag second [] (All-tail IsNoFlag first (second ∷ []) plain)))
named_plain conflict plain = refl

pub made_plain : (call : Call) → All IsNoFlag (inputs_of call) → made_call call ≡ call
made_plain call plain = rw (no_hyphens (inputs_of call) plain) (named_plain call plain)

-- ---- requests

-- what is made of a request that is the call as it is written is the call as it is made
pub made_found : (found : Option Call) (written made : Meaning) → IsFound found written → IsMade written made → IsFound (option_map made_call found) made
made_found found (calls call) made is asked = subst (λ o. IsFound (option_map made_call o) made) (sym is) asked
made_found found version made is asked = absurd is
made_found found help made is asked = absurd is
made_found found rejection made is asked = subst (IsFound (option_map made_call found)) (sym asked) (ap (option_map made_call) is)
made_found found nothing made is asked = subst (IsFound (option_map made_call found)) (sym asked) tt
