-- How many bytes the lines of a listing have.
use Rattle.std.proofs.Common.{◌≡◌, ℕ, ◌+◌, ◌*◌, ◌^◌, ◌<◌, ◌≤◌, List, [], ◌∷◌, ◌++◌, length, sum_by, codes, arith}
use Rattle.std.specs.Fmt.{decimal}
use Rattle.std.specs.Int.{bytes_high_first}
use Rattle.std.specs.List.{All, enumerate_from, flat_map}
use Rattle.std.proofs.lemmas.List.{length-append}
use Rattle.std.proofs.lemmas.List.Concat.{length-flat_map}
use Rattle.std.proofs.lemmas.List.Elements.{All-head, All-tail, All-weaker}
use Rattle.std.proofs.lemmas.List.Sums.{sum_by-cons, sum_by-le}
use Rattle.hex.specs.Hex.{lower_digits}
use Rattle.hex.proofs.HexLemmas.{length-encode_with}
use Rattle.hunk_words.specs.declared.kinds.HunkKind.{HunkKind}
use Rattle.hunk_words.specs.declared.kinds.HunkKind.TheVariants.{Code, Data, Bss}
use Rattle.hunk_words.specs.declared.kinds.Memory.{Memory}
use Rattle.hunk_words.specs.declared.kinds.Memory.TheVariants.{Any, Chip, Fast}
use Rattle.hunk_base.specs.Name.{most_name}
use Rattle.hunk_base.specs.Digits.{eight_digits}
use Rattle.hunk_text.specs.Listing.{adds_hunk, debug_line, debug_lines, hunk_front, kind_word, memory_word, site_line, symbol_line}
use Rattle.hunk_base.specs.QuotedName.{escaped_all, quoted}
use Rattle.hunk_base.proofs.QuotedNameLemmas.{length-escaped_all-le}
use Rattle.hunk_base.proofs.DigitsLemmas.{length-decimal}

-- ---- parts of lines

-- up to four bytes for each byte of a name, and a quote at each end
pub length-quoted-le : (name : List ℕ) → length (quoted name) ≤ 4 * length name + 2
length-quoted-le name = omega (arith, length-append (escaped_all name) (34 ∷ []), length-escaped_all-le name)

pub length-eight_digits : (number : ℕ) → length (eight_digits number) ≡ 8
length-eight_digits number = length-encode_with lower_digits (bytes_high_first 4 number)

pub length-kind_word-le : (kind : HunkKind) → length (kind_word kind) ≤ 4
length-kind_word-le Code = omega arith
length-kind_word-le Data = omega arith
length-kind_word-le Bss = omega arith

pub length-memory_word-le : (memory : Memory) → length (memory_word memory) ≤ 4
length-memory_word-le Any = omega arith
length-memory_word-le Chip = omega arith
length-memory_word-le Fast = omega arith

-- the most bytes that the line of a hunk begins with
abbrev pub most_front : ℕ
most_front = 66

pub length-hunk_front-le : (number : ℕ) (kind : HunkKind) (memory : Memory) (size : ℕ) → number < 2 ^ 64 → size < 2 ^ 64 → length (hunk_front number kind memory size) ≤ most_front
length-hunk_front-le number kind memory size number_fits size_fits =
    simp length-append (omega (arith, length-decimal number number_fits, length-decimal size size_fits, length-kind_word-le kind, length-memory_word-le memory))

-- ---- lines

-- the most bytes of a line whose names have no more than 2^26 bytes
abbrev pub most_line : ℕ
most_line = 2 ^ 29

pub length-site_line-le : (offset : ℕ) (adds : List ℕ) → length adds ≤ 2 ^ 28 → length (site_line offset adds) ≤ most_line
length-site_line-le offset adds fits = simp length-append (omega (arith, length-eight_digits offset))

pub length-adds_hunk-le : (number : ℕ) → number < 2 ^ 64 → length (adds_hunk number) ≤ 25
length-adds_hunk-le number fits = omega (arith, length-append (codes "hunk ") (decimal number), length-decimal number fits)

-- a name that is no longer than a symbol's may be in a file
abbrev pub HasShortName : {X : Type 0} → List ℕ × X → Type 0
HasShortName named = length named.0 ≤ most_name

length-symbol_line-le : (symbol : List ℕ × ℕ) → HasShortName symbol → length (symbol_line symbol) ≤ most_line
length-symbol_line-le symbol fits = simp length-append (omega (arith, length-escaped_all-le symbol.0, length-eight_digits symbol.1))

-- The number of these words has at most 64 bits.
abbrev pub IsCounted : List ℕ → Type 0
IsCounted words = length words < 2 ^ 64

length-debug_line-le : (words : List ℕ) → IsCounted words → length (debug_line words) ≤ most_line
length-debug_line-le words fits = simp length-append (omega (arith, length-decimal (length words) fits))

-- ---- one line after another

pub length-parts-le : (front rest : List ℕ) (x y most : ℕ) → length front ≤ x → length rest ≤ y → x + y ≤ most → length (front ++ rest) ≤ most
length-parts-le front rest x y most front_fits rest_fits fits = omega (arith, length-append front rest)

-- a line for each element
pub length-lines-le : {X : Type 0} (P : X → Type 0) (f : X → List ℕ) (xs : List X) → ((x : X) → P x → length (f x) ≤ most_line) → All P xs → length (flat_map f xs) ≤ most_line * length xs
length-lines-le P f xs short all = omega (arith, length-flat_map f xs, sum_by-le (λ x. length (f x)) most_line xs (All-weaker P (λ x. length (f x) ≤ most_line) short xs all))

pub length-debug_lines-le : (symbols : List (List ℕ × ℕ)) (debugs : List (List ℕ)) → All HasShortName symbols → All IsCounted debugs → length (debug_lines symbols debugs) ≤ most_line * (length symbols + length debugs)
length-debug_lines-le symbols debugs short counted =
    omega (
      arith,
      length-append (flat_map symbol_line symbols) (flat_map debug_line debugs),
      length-lines-le HasShortName symbol_line symbols length-symbol_line-le short,
      length-lines-le IsCounted debug_line debugs length-debug_line-le counted,
    )

-- the lines of elements with their numbers, as many as `weight` says
pub length-numbered-le : {X : Type 0} (P : X → Type 0) (f : ℕ × X → List ℕ) (weight : X → ℕ) (from : ℕ) (xs : List X)
    → ((number : ℕ) (x : X) → number < 2 ^ 64 → P x → length (f (number, x)) ≤ most_line * weight x) → from + length xs ≤ 2 ^ 64 → All P xs
    → length (flat_map f (enumerate_from from xs)) ≤ most_line * sum_by weight xs
length-numbered-le P f weight from [] short few all = omega arith
length-numbered-le P f weight from (x ∷ xs) short few all =
    omega (
      arith,
      length-append (f (from, x)) (flat_map f (enumerate_from (from + 1) xs)),
      short from x (omega arith) (All-head P x xs all),
      length-numbered-le P f weight (from + 1) xs short (omega arith) (All-tail P x xs all),
      sum_by-cons weight x xs,
    )

-- If each element weighs something, there are no more of them than their sum.
pub length-le-sum_by : {X : Type 0} (weight : X → ℕ) (xs : List X) → ((x : X) → 1 ≤ weight x) → length xs ≤ sum_by weight xs
length-le-sum_by weight [] some = omega arith
length-le-sum_by weight (x ∷ xs) some = omega (arith, sum_by-cons weight x xs, some x, length-le-sum_by weight xs some)
