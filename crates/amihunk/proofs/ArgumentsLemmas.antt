-- What words mean among arguments some of which are no text.
use Rattle.std.proofs.Common.{Err, Ok, Result, ◌-◌, take, ◌≡◌, ◌<◌, ◌≤◌, ◌^◌, ◌∷◌, ◌++◌, ◌⊎◌, ◌∙◌, inl, inr, ℕ, zero, suc, Bool, true, false, cond, List, [], Option, Some, None, ap, arith, drop, get_or, length, refl, set, subst, sym}
use Rattle.std.specs.Borrow.{Bor}
use Rattle.std.specs.Fmt.{decimal}
use Rattle.std.specs.Prelude.{⊤, option_and_then, slice_get, slice_index_or}
use Rattle.std.specs.Slice.{IsItemAt}
use Rattle.std.specs.Str.{IsUtf8, bytes_eq}
use Rattle.std.specs.String.{string_bytes}
use Rattle.std.proofs.lemmas.Fmt.{IsAscii-decimal}
use Rattle.std.proofs.lemmas.List.{take_all}
use Rattle.std.proofs.lemmas.Slice.Eq.{bytes_eq-Decides}
use Rattle.std.proofs.lemmas.Str.{IsUtf8-from_ascii}
use Rattle.clap.specs.Walk.{texts}
use Rattle.clap.specs.Words.{Text}
use Rattle.amihunk.specs.Call.{IsOrNothing, Meaning}
use Rattle.amihunk.specs.Call.Meaning.{calls, help, nothing, rejection, version}
use Rattle.amihunk.specs.Arguments.{AreArguments, AreMeantBy, HasBytes, IsArgument, IsAskedOf, IsMeantBy, IsNoSurvey, begins_with, own_bytes, stand_in}
use Rattle.amihunk.specs.declared.arguments.Argument.{Argument}
use Rattle.amihunk.specs.declared.arguments.Argument.TheVariants as argument

-- the first of the files are what the words mean, and the others are the words
abbrev pub MeantTo : List Argument → ℕ → (words files : List Text) → Type 0
MeantTo arguments zero words files = files ≡ words
MeantTo arguments (suc count) [] [] = ⊤
MeantTo arguments (suc count) (word ∷ words) (file ∷ files) = IsMeantBy arguments word file × MeantTo arguments count words files
MeantTo arguments (suc count) _ _ = ⊥

-- and so is the next one
pub meant-more : (arguments : List Argument) (words : List Text) (so_far : List (Bor Text)) (i : ℕ) (d new : Bor Text) → i < length words
    → MeantTo arguments i words (texts so_far) → IsMeantBy arguments (get_or so_far i d).now new.now → MeantTo arguments (suc i) words (texts (set so_far i new))
meant-more arguments [] so_far i d new low is meant = absurd (omega arith)
meant-more arguments (w ∷ ws) [] zero d new low is meant = cc
meant-more arguments (w ∷ ws) (y ∷ ys) zero d new low is meant =
    let first : y.now ≡ w = cc in
    let rest : texts ys ≡ ws = cc in
    (subst (λ x. IsMeantBy arguments x new.now) first meant, rest)
meant-more arguments (w ∷ ws) [] (suc i) d new low is meant = absurd is
meant-more arguments (w ∷ ws) (y ∷ ys) (suc i) d new low is meant = (is.0, meant-more arguments ws ys i d new (omega arith) is.1 meant)

pub meant-all : (arguments : List Argument) (words files : List Text) (count : ℕ) → length words ≤ count → MeantTo arguments count words files → AreMeantBy arguments words files
meant-all arguments [] files zero all is = subst (AreMeantBy arguments []) (sym is) tt
meant-all arguments [] [] (suc count) all is = tt
meant-all arguments [] (file ∷ files) (suc count) all is = absurd is
meant-all arguments (word ∷ words) files zero all is = absurd (omega arith)
meant-all arguments (word ∷ words) [] (suc count) all is = absurd is
meant-all arguments (word ∷ words) (file ∷ files) (suc count) all is = (is.0, meant-all arguments words files count (omega arith) is.1)

-- ---- the argument at an index

get_low : (arguments : List Argument) (index : ℕ) (d : Argument) → index < length arguments → slice_get arguments index ≡ Some (slice_index_or arguments index d)
get_low [] index d low = absurd (omega arith)
get_low (x ∷ xs) zero d low = refl
get_low (x ∷ xs) (suc index) d low = get_low xs index d (omega (arith, low))

get_high : (arguments : List Argument) (index : ℕ) → length arguments ≤ index → slice_get arguments index ≡ None
get_high [] index high = refl
get_high (x ∷ xs) zero high = absurd (omega (arith, high))
get_high (x ∷ xs) (suc index) high = get_high xs index (omega (arith, high))

pub got_item : (arguments : List Argument) (index : ℕ) (it : Bor Argument) (r : Option (Bor Argument)) → IsItemAt arguments index r → r ≡ Some it
    → slice_get arguments index ≡ Some it.now
got_item arguments index it r is some =
    let found = subst (IsItemAt arguments index) some is in
    get_low arguments index it.now found.3.0 ∙ ap Some (sym found.1)

pub got_none : (arguments : List Argument) (index : ℕ) (r : Option (Bor Argument)) → IsItemAt arguments index r → r ≡ None → slice_get arguments index ≡ None
got_none arguments index r is none =
    let found = subst (IsItemAt arguments index) none is in
    get_high arguments index found.3

-- ---- one word

-- an argument that is no text is one of them
pub in_range : (arguments : List Argument) (index : ℕ) (own : Text) → HasBytes (slice_get arguments index) own → index < length arguments
in_range [] index own has = absurd has
in_range (x ∷ xs) zero own has = omega arith
in_range (x ∷ xs) (suc index) own has = let low = in_range xs index own has in omega (arith, low)

-- the word stands for none of them
pub meant_itself : (arguments : List Argument) (word : Text) → ((index : ℕ) (own : Text) → word ≡ stand_in index → HasBytes (slice_get arguments index) own → ⊥) → IsMeantBy arguments word word
meant_itself arguments word none = record { stands = λ index own is has. absurd (none index own is has); other = λ _. refl }

-- no index is found for the word, or none of an argument
pub meant_without : (arguments : List Argument) (word : Text) (found : Option ℕ) → length arguments < 2 ^ 64
    → ((index : ℕ) → index < 2 ^ 64 → word ≡ stand_in index → found ≡ Some index)
    → option_and_then (slice_get arguments) found ≡ None → IsMeantBy arguments word word
meant_without arguments word None fits finds none =
    meant_itself arguments word (λ index own is has. let low = in_range arguments index own has in let found : None ≡ Some index = finds index (omega (arith, low, fits)) is in cc)
meant_without arguments word (Some at) fits finds none =
    meant_itself arguments word (λ index own is has. let low = in_range arguments index own has in
    let found : Some at ≡ Some index = finds index (omega (arith, low, fits)) is in
    let same : at ≡ index = cc in
    subst (λ o. HasBytes o own) (ap (slice_get arguments) (sym same) ∙ none) has)

-- the argument at the index that is found for the word
pub meant_own : (arguments : List Argument) (word : Text) (at : ℕ) (it : Argument) → length arguments < 2 ^ 64
    → ((index : ℕ) → index < 2 ^ 64 → word ≡ stand_in index → Some at ≡ Some index)
    → slice_get arguments at ≡ Some it → IsArgument at it → IsMeantBy arguments word (own_bytes it word)
meant_own arguments word at (argument.Text text) fits finds got is_argument =
    meant_itself arguments word (λ index own is has. let low = in_range arguments index own has in
    let found : Some at ≡ Some index = finds index (omega (arith, low, fits)) is in
    let same : at ≡ index = cc in
    subst (λ o. HasBytes o own) (ap (slice_get arguments) (sym same) ∙ got) has)
meant_own arguments word at (argument.Bytes bytes own_word) fits finds got is_argument = go (bytes_eq (string_bytes own_word) word) refl
  where
    go : (b : Bool) → bytes_eq (string_bytes own_word) word ≡ b → IsMeantBy arguments word (cond b bytes.items word)
    go true same = record {
      stands = λ index own is has. let low = in_range arguments index own has in
          let found : Some at ≡ Some index = finds index (omega (arith, low, fits)) is in
          let here : at ≡ index = cc in
          subst (λ o. HasBytes o own) (ap (slice_get arguments) (sym here) ∙ got) has;
      other = λ none. absurd (none at bytes.items (sym ((bytes_eq-Decides (string_bytes own_word) word).0 same) ∙ is_argument.1) (subst (λ o. HasBytes o bytes.items) (sym got) refl));
    }
    go false differs = meant_itself arguments word (λ index own is has. let low = in_range arguments index own has in
        let found : Some at ≡ Some index = finds index (omega (arith, low, fits)) is in
        let here : at ≡ index = cc in
        let equal : true ≡ false = sym ((bytes_eq-Decides (string_bytes own_word) word).1 (is_argument.1 ∙ ap stand_in here ∙ sym is)) ∙ differs in
        cc)

-- ---- the index of a word

-- a word that stands for an argument begins with a zero byte
pub marked : (word : Text) (index : ℕ) → word ≡ stand_in index → begins_with 0 word ≡ true
marked word index is = ap (begins_with 0) is ∙ refl

pub some_byte : (byte : ℕ) (bytes : Text) → begins_with byte bytes ≡ true → 1 ≤ length bytes
some_byte byte [] begins = cc
some_byte byte (x ∷ xs) begins = omega arith

-- and its digits are read
pub digits_of : (word : Text) (index : ℕ) → word ≡ stand_in index → drop 1 word ≡ decimal index
digits_of word index is = ap (drop 1) is

pub digits_are_text : (word digits : Text) (index : ℕ) → index < 2 ^ 64 → digits ≡ drop 1 word → word ≡ stand_in index → IsUtf8 digits
digits_are_text word digits index low cut is = subst IsUtf8 (sym (cut ∙ digits_of word index is)) (IsUtf8-from_ascii (decimal index) (IsAscii-decimal index low))

-- the bytes of a text but its first
pub rest_of : (word : Text) → take (length word - 1) (drop 1 word) ≡ drop 1 word
rest_of [] = take_all (0 - 1) [] (omega arith)
rest_of (x ∷ xs) = take_all (length (x ∷ xs) - 1) xs (omega arith)

pub same_ok : {E : Type 0} (r : Result ℕ E) (one other : ℕ) → r ≡ Ok one → r ≡ Ok other → Some one ≡ Some other
same_ok r one other first second =
    let same : Ok one ≡ Ok other = sym first ∙ second in
    let equal : one ≡ other = cc in
    ap Some equal

pub no_error : {E : Type 0} (r : Result ℕ E) (error : E) (number : ℕ) → r ≡ Err error → r ≡ Ok number → ⊥
no_error r error number failed read =
    let both : Err error ≡ Ok number = sym failed ∙ read in
    cc

-- ---- the arguments, one after another

among-more : (arguments : List Argument) (new it : Argument) (index : ℕ) → slice_get (arguments ++ new ∷ []) index ≡ Some it
    → (slice_get arguments index ≡ Some it) ⊎ ((index ≡ length arguments) × (new ≡ it))
among-more [] new it zero got = let same : new ≡ it = cc in inr (refl, same)
among-more [] new it (suc index) got = cc
among-more (x ∷ xs) new it zero got = inl got
among-more (x ∷ xs) new it (suc index) got = elim (among-more xs new it index got) [
  | inl before ↦ inl before
  | inr last ↦ inr (ap suc last.0, last.1)
]

pub arguments-none : AreArguments []
arguments-none index it got = cc

pub arguments-more : (arguments : List Argument) (new : Argument) → AreArguments arguments → IsArgument (length arguments) new → AreArguments (arguments ++ new ∷ [])
arguments-more arguments new are is index it got = elim (among-more arguments new it index got) [
  | inl before ↦ are index it before
  | inr last ↦ subst (λ x. IsArgument index x) last.1 (subst (λ n. IsArgument n new) (sym last.0) is)
]

-- ---- what is asked

-- what is rejected is no survey
pub rejected : (arguments : List Argument) (by_words asked : Meaning) → IsNoSurvey arguments by_words → IsOrNothing rejection asked → IsAskedOf arguments by_words asked
rejected arguments by_words (calls call) none is = cc
rejected arguments by_words version none is = cc
rejected arguments by_words help none is = cc
rejected arguments by_words rejection none is = none
rejected arguments by_words nothing none is = tt
