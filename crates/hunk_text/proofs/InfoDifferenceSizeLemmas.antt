-- How many bytes the line has that tells where two load files first differ in what only debuggers read.
use Rattle.std.proofs.Common.{◌≡◌, ℕ, zero, suc, ◌+◌, ◌^◌, ◌<◌, ◌≤◌, ◌==◌, Bool, nat_lt, max, inl, inr, List, [], ◌∷◌, length, get_or, slice_get, Option, Some, None, IfSome, arith}
use Rattle.std.specs.Cmp.Lexicographic.{pointwise}
use Rattle.std.specs.List.{All, common_prefix_len}
use Rattle.std.specs.Option.{option_map}
use Rattle.std.proofs.lemmas.Bool.{cases_Bool, ltb-true}
use Rattle.std.proofs.lemmas.List.{length-append}
use Rattle.std.proofs.lemmas.List.Elements.{All-head, All-tail}
use Rattle.std.proofs.lemmas.List.Sums.{get_or-le-sum_by}
use Rattle.std.proofs.lemmas.Option.{same_Some}
use Rattle.hunk_base.proofs.DigitsLemmas.{length-decimal}
use Rattle.hunk_base.proofs.QuotedNameLemmas.{length-escaped_all-le}
use Rattle.hunk_loadfile.specs.InfoDifference.{first_unshared, hunk_info_difference, hunks_info_difference, is_same_debug, is_same_symbol}
use Rattle.hunk_loadfile.specs.LoadHunk.{FileHunk}
use Rattle.hunk_loadfile.specs.Rules.{IsLoadFile, carried_by, debug_longwords, symbol_longwords}
use Rattle.hunk_loadfile.specs.declared.info_difference.InfoDifference.{InfoDifference}
use Rattle.hunk_loadfile.specs.declared.info_difference.InfoDifference.TheVariants.{Symbol, Debug}
use Rattle.hunk_text.specs.DifferenceText.{info_difference_line, symbol_at, symbol_of, symbols_text, unlike_symbols}
use Rattle.hunk_text.specs.Laws.{InfoDifferenceFits}
use Rattle.hunk_text.proofs.DifferenceSizeLemmas.{IsCount, map-told, or-told}
use Rattle.hunk_text.proofs.ListingSizeLemmas.{HasShortName, length-eight_digits, length-le-sum_by}

-- ---- a line

length-unlike_symbols-le : (first second : List ℕ × ℕ) → HasShortName first → HasShortName second → length (unlike_symbols first second) ≤ 2 ^ 30
length-unlike_symbols-le first second one other = elim (cases_Bool (pointwise ◌==◌ first.0 second.0)) [
  | inl same ↦ rw same (simp length-append (omega (arith, length-escaped_all-le first.0, length-eight_digits first.1, length-eight_digits second.1)))
  | inr unlike ↦ rw unlike (simp length-append (omega (arith, length-escaped_all-le first.0, length-escaped_all-le second.0)))
]

length-symbols_text-le : (first second : Option (List ℕ × ℕ)) → IfSome first HasShortName → IfSome second HasShortName → length (symbols_text first second) ≤ 2 ^ 30
length-symbols_text-le (Some first) (Some second) one other = length-unlike_symbols-le first second one other
length-symbols_text-le (Some first) None one other = simp length-append (omega (arith, length-escaped_all-le first.0, length-eight_digits first.1))
length-symbols_text-le None (Some second) one other = simp length-append (omega (arith, length-escaped_all-le second.0, length-eight_digits second.1))
length-symbols_text-le None None one other = omega arith

-- both numbers are told in decimal digits, and have at most 64 bits
abbrev IsCounted : InfoDifference → Type 0
IsCounted (Symbol hunk index) = IsCount hunk × IsCount index
IsCounted (Debug hunk index) = IsCount hunk × IsCount index

abbrev HasShortNames : FileHunk → Type 0
HasShortNames hunk = All HasShortName hunk.symbols

slice_get-all : {X : Type 0} (P : X → Type 0) (xs : List X) (i : ℕ) → All P xs → IfSome (slice_get xs i) P
slice_get-all P [] i all = tt
slice_get-all P (x ∷ xs) zero all = All-head P x xs all
slice_get-all P (x ∷ xs) (suc i) all = slice_get-all P xs i (All-tail P x xs all)

symbol_of-short : (hunk : Option FileHunk) (index : ℕ) → IfSome hunk HasShortNames → IfSome (symbol_of hunk index) HasShortName
symbol_of-short None index short = tt
symbol_of-short (Some hunk) index short = slice_get-all HasShortName hunk.symbols index short

symbol_at-short : (hunks : List FileHunk) (hunk index : ℕ) → All HasShortNames hunks → IfSome (symbol_at hunks hunk index) HasShortName
symbol_at-short hunks hunk index short = symbol_of-short (slice_get hunks hunk) index (slice_get-all HasShortNames hunks hunk short)

length-info_difference_line-le : (first second : List FileHunk) (difference : InfoDifference) → All HasShortNames first → All HasShortNames second → IsCounted difference
    → length (info_difference_line first second difference) ≤ 2 ^ 31
length-info_difference_line-le first second (Symbol hunk index) ones others counted =
    let symbols = length-symbols_text-le (symbol_at first hunk index) (symbol_at second hunk index) (symbol_at-short first hunk index ones) (symbol_at-short second hunk index others) in
    simp length-append (omega (arith, length-decimal hunk counted.0, length-decimal index counted.1, symbols))
length-info_difference_line-le first second (Debug hunk index) ones others counted =
    simp length-append (omega (arith, length-decimal hunk counted.0, length-decimal index counted.1))

-- ---- what is found first

-- an index in one of the two lists
unshared-within : {X : Type 0} (same : X → X → Bool) (xs ys : List X) (index : ℕ) → first_unshared same xs ys ≡ Some index → index < max (length xs) (length ys)
unshared-within same xs ys index is = elim (cases_Bool (nat_lt (common_prefix_len same xs ys) (max (length xs) (length ys)))) [
  | inl fewer ↦
      let found : common_prefix_len same xs ys ≡ index = same_Some (common_prefix_len same xs ys) index (rw fewer at is) in
      omega (arith, found, ltb-true (common_prefix_len same xs ys) (max (length xs) (length ys)) fewer)
  | inr all ↦ let no = rw all at is in absurd (cc)
]

-- the symbols and the debug blocks of a hunk are no more than can be counted
record HasCounts (hunk : FileHunk) : Type 0 where
  symbols : IsCount (length hunk.symbols)
  debugs : IsCount (length hunk.debugs)

hunk_info_difference-counted : (told : InfoDifference) (number : ℕ) (first second : FileHunk) → IsCount number → HasCounts first → HasCounts second
    → hunk_info_difference number first second ≡ Some told → IsCounted told
hunk_info_difference-counted told number first second counted one other =
    or-told IsCounted told (option_map (Symbol number) (first_unshared is_same_symbol first.symbols second.symbols)) (option_map (Debug number) (first_unshared is_same_debug first.debugs second.debugs))
    (map-told IsCounted told (Symbol number) (first_unshared is_same_symbol first.symbols second.symbols)
    (λ index found. (counted, omega (arith, unshared-within is_same_symbol first.symbols second.symbols index found, one.symbols, other.symbols))))
    (map-told IsCounted told (Debug number) (first_unshared is_same_debug first.debugs second.debugs)
    (λ index found. (counted, omega (arith, unshared-within is_same_debug first.debugs second.debugs index found, one.debugs, other.debugs))))

hunks_info_difference-counted : (told : InfoDifference) (number : ℕ) (firsts seconds : List FileHunk) → number + length firsts ≤ 2 ^ 64 → All HasCounts firsts → All HasCounts seconds
    → hunks_info_difference number firsts seconds ≡ Some told → IsCounted told
hunks_info_difference-counted told number [] seconds few ones others is = absurd (cc)
hunks_info_difference-counted told number (first ∷ firsts) [] few ones others is = absurd (cc)
hunks_info_difference-counted told number (first ∷ firsts) (second ∷ seconds) few ones others is =
    or-told IsCounted told (hunk_info_difference number first second) (hunks_info_difference (number + 1) firsts seconds)
    (hunk_info_difference-counted told number first second (omega arith) (All-head HasCounts first firsts ones) (All-head HasCounts second seconds others))
    (hunks_info_difference-counted told (number + 1) firsts seconds (omega arith) (All-tail HasCounts first firsts ones) (All-tail HasCounts second seconds others)) is

-- ---- files

HasCounts-all : (hunks : List FileHunk) → IsLoadFile hunks → All HasCounts hunks
HasCounts-all hunks valid i hunk low =
    let carried = get_or-le-sum_by carried_by hunks i hunk low in
    let at = get_or hunks i hunk in
    record {
      symbols = omega (arith, carried, valid.carries, length-le-sum_by symbol_longwords at.symbols (λ symbol. omega arith));
      debugs = omega (arith, carried, valid.carries, length-le-sum_by debug_longwords at.debugs (λ words. omega arith));
    }

HasShortNames-all : (hunks : List FileHunk) → IsLoadFile hunks → All HasShortNames hunks
HasShortNames-all hunks valid i hunk low = (valid.each i hunk low).names

pub info_difference-fits : InfoDifferenceFits
info_difference-fits first second difference one other is =
    let counted = hunks_info_difference-counted difference 0 first second (omega (arith, one.few)) (HasCounts-all first one) (HasCounts-all second other) is in
    omega (arith, length-info_difference_line-le first second difference (HasShortNames-all first one) (HasShortNames-all second other) counted)
