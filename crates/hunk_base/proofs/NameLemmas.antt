-- What holds of names and of the longwords that hold them.
use Rattle.std.proofs.Common.{◌≡◌, ℕ, zero, suc, ◌+◌, ◌-◌, ◌*◌, ◌^◌, ◌<◌, ◌≤◌, ◌==◌, ◌⊎◌, inl, inr, Option, MatchOption, nat_lt, Bool, true, false, cond, not, List, [], ◌∷◌, ◌++◌, length, take, drop, map, replicate, get_or, slice_index, refl, sym, ap, ◌∙◌, arith}
use Rattle.std.proofs.lemmas.List.{append-nil, append_assoc, drop-drop, drop_all, drop_more, length-drop, take_all}
use Rattle.std.proofs.lemmas.List.Elements.{All-from_recursion, recursion_from_All, All-weaker}
use Rattle.std.proofs.lemmas.Bool.{cases_lt, lt-ltb, le-ltb}
use Rattle.std.proofs.lemmas.List.Sums.{take_while-cons}
use Rattle.std.proofs.Math.Dec.{eqb-suc-zero}
use Rattle.std.proofs.lemmas.List.FromFn.{length-map-range_with_len, map-range_with_len_more}
use Rattle.std.specs.Int.{byte_at}
use Rattle.std.specs.List.{All, AllByRecursion, before_first, range_with_len, position, position_or_len, prefix_len}
use Rattle.byteorder.specs.Endian.{big_bytes, big_number}
use Rattle.byteorder.specs.Numbers.{big_from-lt}
use Rattle.hunk_base.specs.Name.{IsNameByte, Names, Writes, bytes_of, name_of, name_words, longword_count}

-- what comes before the first zero byte
abbrev before_zero : List ℕ → List ℕ
before_zero bs = before_first (λ b. b == 0) bs

-- whether a byte belongs to a name
abbrev not_zero : ℕ → Bool
not_zero b = not (b == 0)

-- each byte is below 256, by recursion
abbrev AreBytes : List ℕ → Type 0
AreBytes bs = AllByRecursion (λ b. b < 256) bs

abbrev AreNonzero : List ℕ → Type 0
AreNonzero bs = AllByRecursion (λ b. 0 < b) bs

-- ---- bytes of longwords

byte_at-lt : (k n : ℕ) → byte_at k n < 256
byte_at-lt zero n = omega arith
byte_at-lt (suc k) n = omega arith

AreBytes-append : (xs ys : List ℕ) → AreBytes xs → AreBytes ys → AreBytes (xs ++ ys)
AreBytes-append [] ys h k = k
AreBytes-append (x ∷ xs) ys h k = (h.0, AreBytes-append xs ys h.1 k)

AreBytes-bytes_of : (ws : List ℕ) → AreBytes (bytes_of ws)
AreBytes-bytes_of [] = tt
AreBytes-bytes_of (w ∷ ws) =
    AreBytes-append (big_bytes 4 w) (bytes_of ws) (byte_at-lt 3 w, (byte_at-lt 2 w, (byte_at-lt 1 w, (byte_at-lt 0 w, tt)))) (AreBytes-bytes_of ws)

-- the bytes of longwords are bytes
pub bytes_of-lt : (ws : List ℕ) → All (λ b. b < 256) (bytes_of ws)
bytes_of-lt ws = All-from_recursion (λ b. b < 256) (bytes_of ws) (AreBytes-bytes_of ws)

-- ---- the cut at the first zero byte

before_zero-more : (b : ℕ) (bs : List ℕ) → before_zero (suc b ∷ bs) ≡ suc b ∷ before_zero bs
before_zero-more b bs =
    take_while-cons not_zero (suc b) bs ∙ ap (λ (t : Bool). cond (not t) (suc b ∷ before_zero bs) []) (eqb-suc-zero b)

before_zero-bytes : (bs : List ℕ) → AreBytes bs → AllByRecursion IsNameByte (before_zero bs)
before_zero-bytes [] h = tt
before_zero-bytes (zero ∷ bs) h = tt
before_zero-bytes (suc b ∷ bs) h = rw (before_zero-more b bs) ((omega arith, h.0), before_zero-bytes bs h.1)

before_zero-splits : (bs : List ℕ) → (bs ≡ before_zero bs) ⊎ ((rest : List ℕ) × (bs ≡ before_zero bs ++ 0 ∷ rest))
before_zero-splits [] = inl refl
before_zero-splits (zero ∷ bs) = inr (bs, refl)
before_zero-splits (suc b ∷ bs) = rw (before_zero-more b bs) (elim (before_zero-splits bs) [
  | inl e ↦ inl (ap (λ (t : List ℕ). suc b ∷ t) e)
  | inr r ↦ inr (r.0, ap (λ (t : List ℕ). suc b ∷ t) r.1)
])

before_zero-zero : (n rest : List ℕ) → AreNonzero n → before_zero (n ++ 0 ∷ rest) ≡ n
before_zero-zero [] rest h = refl
before_zero-zero (zero ∷ n) rest h = absurd (omega arith)
before_zero-zero (suc b ∷ n) rest h =
    before_zero-more b (n ++ 0 ∷ rest) ∙ ap (λ (t : List ℕ). suc b ∷ t) (before_zero-zero n rest h.1)

before_zero-whole : (n : List ℕ) → AreNonzero n → before_zero n ≡ n
before_zero-whole [] h = refl
before_zero-whole (zero ∷ n) h = absurd (omega arith)
before_zero-whole (suc b ∷ n) h = before_zero-more b n ∙ ap (λ (t : List ℕ). suc b ∷ t) (before_zero-whole n h.1)

before_zero-position : (bs : List ℕ) → MatchOption (position (λ b. b == 0) bs) (before_first (λ b. b == 0) bs ≡ bs) (λ end. before_first (λ b. b == 0) bs ≡ take end bs)
before_zero-position bs = elim (cases_lt (position_or_len (λ b. b == 0) bs) (length bs)) [
  | inl below ↦ let test : nat_lt (position_or_len (λ b. b == 0) bs) (length bs) ≡ true = lt-ltb _ _ below in rw test refl
  | inr above ↦ let test : nat_lt (position_or_len (λ b. b == 0) bs) (length bs) ≡ false = le-ltb _ _ above in rw test (take_all (prefix_len not_zero bs) bs above)
]

-- the cut is at the first zero, if there is one
pub before_zero-at : (bs : List ℕ) (place : Option ℕ) → place ≡ position (λ b. b == 0) bs
    → MatchOption place (before_first (λ b. b == 0) bs ≡ bs) (λ end. before_first (λ b. b == 0) bs ≡ take end bs)
before_zero-at bs place e = rw e (before_zero-position bs)

-- a list that is cut short hides what follows, and one that is not does not
pub before_zero-short : (xs ys : List ℕ) → length (before_zero xs) < length xs → before_zero (xs ++ ys) ≡ before_zero xs
before_zero-short [] ys h = absurd (omega arith)
before_zero-short (zero ∷ xs) ys h = refl
before_zero-short (suc b ∷ xs) ys h =
    let e = before_zero-more b xs in
    let count : length (before_zero (suc b ∷ xs)) ≡ suc (length (before_zero xs)) = ap length e in
    let shorter : length (before_zero xs) < length xs = omega arith in
    before_zero-more b (xs ++ ys) ∙ ap (λ (t : List ℕ). suc b ∷ t) (before_zero-short xs ys shorter) ∙ sym e

pub before_zero-long : (xs ys : List ℕ) → length xs ≤ length (before_zero xs) → before_zero (xs ++ ys) ≡ before_zero xs ++ before_zero ys
before_zero-long [] ys h = refl
before_zero-long (zero ∷ xs) ys h = absurd (omega arith)
before_zero-long (suc b ∷ xs) ys h =
    let e = before_zero-more b xs in
    let count : length (before_zero (suc b ∷ xs)) ≡ suc (length (before_zero xs)) = ap length e in
    let longer : length xs ≤ length (before_zero xs) = omega arith in
    before_zero-more b (xs ++ ys) ∙ ap (λ (t : List ℕ). suc b ∷ t) (before_zero-long xs ys longer) ∙ ap (λ (t : List ℕ). t ++ before_zero ys) (sym e)

-- The name of longwords, the first i of which yielded `items`, and the next one yields `front`: it
-- ends here, or continues.
pub name_of-stops : (words items long front : List ℕ) (i : ℕ) → i < length words
    → long ≡ big_bytes 4 (get_or words i 0) → front ≡ before_first (λ b. b == 0) long
    → name_of words ≡ items ++ name_of (drop i words) → length front < 4 → items ++ front ≡ name_of words
name_of-stops words items long front i within bytes stop so_far short =
    let w : ℕ = get_or words i 0 in
    let cut : front ≡ before_zero (big_bytes 4 w) = stop ∙ ap before_zero bytes in
    let split : drop i words ≡ w ∷ drop (i + 1) words = drop_more words i 0 within in
    let shorter : length (before_zero (big_bytes 4 w)) < 4 = rw (← cut) short in
    sym (so_far ∙ ap (λ (t : List ℕ). items ++ name_of t) split
    ∙ ap (λ (t : List ℕ). items ++ t) (before_zero-short (big_bytes 4 w) (bytes_of (drop (i + 1) words)) shorter ∙ sym cut))

pub name_of-goes_on : (words items long front : List ℕ) (i : ℕ) → i < length words
    → long ≡ big_bytes 4 (get_or words i 0) → front ≡ before_first (λ b. b == 0) long
    → name_of words ≡ items ++ name_of (drop i words) → 4 ≤ length front → name_of words ≡ (items ++ front) ++ name_of (drop (i + 1) words)
name_of-goes_on words items long front i within bytes stop so_far whole =
    let w : ℕ = get_or words i 0 in
    let cut : front ≡ before_zero (big_bytes 4 w) = stop ∙ ap before_zero bytes in
    let split : drop i words ≡ w ∷ drop (i + 1) words = drop_more words i 0 within in
    let longer : 4 ≤ length (before_zero (big_bytes 4 w)) = rw (← cut) whole in
    so_far ∙ ap (λ (t : List ℕ). items ++ name_of t) split
    ∙ ap (λ (t : List ℕ). items ++ t) (before_zero-long (big_bytes 4 w) (bytes_of (drop (i + 1) words)) longer)
    ∙ ap (λ (t : List ℕ). items ++ (t ++ name_of (drop (i + 1) words))) (sym cut)
    ∙ sym (append_assoc items front (name_of (drop (i + 1) words)))

-- what stands before the first zero byte of bytes are name bytes
pub before_zero-name : (bs : List ℕ) → All (λ b. b < 256) bs → All IsNameByte (before_first (λ b. b == 0) bs)
before_zero-name bs typed = All-from_recursion IsNameByte (before_zero bs) (before_zero-bytes bs (recursion_from_All (λ b. b < 256) bs typed))

-- each byte of a name that longwords hold is a name byte
pub name_of-bytes : (ws : List ℕ) → All IsNameByte (name_of ws)
name_of-bytes ws = All-from_recursion IsNameByte (name_of ws) (before_zero-bytes (bytes_of ws) (AreBytes-bytes_of ws))

-- longwords hold the name that is cut from them
pub name_of-names : (ws : List ℕ) → Names (name_of ws) ws
name_of-names ws = record {
  no_zero = All-weaker IsNameByte (λ b. 0 < b) (λ b h. h.0) (name_of ws) (name_of-bytes ws);
  bytes = before_zero-splits (bytes_of ws);
}

-- and no other name
pub names-unique : (n ws : List ℕ) → Names n ws → n ≡ name_of ws
names-unique n ws h =
    let nonzero = recursion_from_All (λ b. 0 < b) n h.no_zero in
    elim h.bytes [
      | inl e ↦ sym (ap before_zero e ∙ before_zero-whole n nonzero)
      | inr r ↦ sym (ap before_zero r.1 ∙ before_zero-zero n r.0 nonzero)
    ]

-- ---- the longwords of a name

-- four bytes, as a longword and back
pub big_bytes-of_four : (a b c d : ℕ) (rest : List ℕ) → a < 256 → b < 256 → c < 256 → d < 256
    → big_bytes 4 (big_number 4 (a ∷ b ∷ c ∷ d ∷ rest)) ≡ a ∷ b ∷ c ∷ d ∷ []
big_bytes-of_four a b c d rest ha hb hc hd =
    let n : ℕ = big_number 4 (a ∷ b ∷ c ∷ d ∷ rest) in
    let e3 : byte_at 3 n ≡ a = omega arith in
    let e2 : byte_at 2 n ≡ b = omega arith in
    let e1 : byte_at 1 n ≡ c = omega arith in
    let e0 : byte_at 0 n ≡ d = omega arith in
    cc

-- the longwords of n from place k on
abbrev words_from : List ℕ → ℕ → ℕ → List ℕ
words_from n k count = map (λ i. big_number 4 (drop (4 * i) n)) (range_with_len k count)

-- one more longword of the name
pub name_words-more : (ws bytes : List ℕ) (k w : ℕ) → ws ≡ map (λ i. big_number 4 (drop (4 * i) bytes)) (range_with_len 0 k)
    → w ≡ big_number 4 (drop (4 * k) bytes) → ws ++ w ∷ [] ≡ map (λ i. big_number 4 (drop (4 * i) bytes)) (range_with_len 0 (k + 1))
name_words-more ws bytes k w so_far next =
    let more = map-range_with_len_more (λ i. big_number 4 (drop (4 * i) bytes)) 0 k k (omega arith) in
    rw (so_far, next) (sym more)

AreBytes-drop : (k : ℕ) (bs : List ℕ) → AreBytes bs → AreBytes (drop k bs)
AreBytes-drop zero bs h = h
AreBytes-drop (suc k) [] h = tt
AreBytes-drop (suc k) (b ∷ bs) h = AreBytes-drop k bs h.1

-- a longword and the bytes after it, padded with zeros
pad-step : (d : List ℕ) (count : ℕ) → length d ≤ 4 * suc count → AreBytes d
    → big_bytes 4 (big_number 4 d) ++ (drop 4 d ++ replicate (4 * count - length (drop 4 d)) 0) ≡ d ++ replicate (4 * suc count - length d) 0
pad-step [] count fits h =
    let e : 4 * suc count - 0 ≡ suc (suc (suc (suc (4 * count - 0)))) = omega arith in
    rw e refl
pad-step (a ∷ []) count fits h =
    let e : 4 * suc count - 1 ≡ suc (suc (suc (4 * count - 0))) = omega arith in
    let four = big_bytes-of_four a 0 0 0 [] h.0 (omega arith) (omega arith) (omega arith) in
    rw e (ap (λ (t : List ℕ). t ++ replicate (4 * count - 0) 0) four)
pad-step (a ∷ b ∷ []) count fits h =
    let e : 4 * suc count - 2 ≡ suc (suc (4 * count - 0)) = omega arith in
    let four = big_bytes-of_four a b 0 0 [] h.0 h.1.0 (omega arith) (omega arith) in
    rw e (ap (λ (t : List ℕ). t ++ replicate (4 * count - 0) 0) four)
pad-step (a ∷ b ∷ c ∷ []) count fits h =
    let e : 4 * suc count - 3 ≡ suc (4 * count - 0) = omega arith in
    let four = big_bytes-of_four a b c 0 [] h.0 h.1.0 h.1.1.0 (omega arith) in
    rw e (ap (λ (t : List ℕ). t ++ replicate (4 * count - 0) 0) four)
pad-step (a ∷ b ∷ c ∷ d ∷ rest) count fits h =
    let e : 4 * suc count - length (a ∷ b ∷ c ∷ d ∷ rest) ≡ 4 * count - length rest = omega arith in
    let four = big_bytes-of_four a b c d rest h.0 h.1.0 h.1.1.0 h.1.1.1.0 in
    rw e (ap (λ (t : List ℕ). t ++ (rest ++ replicate (4 * count - length rest) 0)) four)

words_from-bytes : (n : List ℕ) (k count : ℕ) → AreBytes n → length n ≤ 4 * (k + count)
    → bytes_of (words_from n k count) ≡ drop (4 * k) n ++ replicate (4 * count - length (drop (4 * k) n)) 0
words_from-bytes n k zero h fits =
    let none : drop (4 * k) n ≡ [] = drop_all (4 * k) n (omega arith) in
    rw none refl
words_from-bytes n k (suc count) h fits =
    let e : 4 * (k + 1) ≡ 4 * k + 4 = omega arith in
    let later : drop (4 * (k + 1)) n ≡ drop 4 (drop (4 * k) n) = ap (λ (m : ℕ). drop m n) e ∙ sym (drop-drop 4 (4 * k) n) in
    let rest = words_from-bytes n (k + 1) count h (omega arith) ∙ ap (λ (t : List ℕ). t ++ replicate (4 * count - length t) 0) later in
    ap (λ (t : List ℕ). big_bytes 4 (big_number 4 (drop (4 * k) n)) ++ t) rest
    ∙ pad-step (drop (4 * k) n) count (omega (arith, length-drop (4 * k) n)) (AreBytes-drop (4 * k) n h)

ends_or_stops : (bs n : List ℕ) (zeros : ℕ) → bs ≡ n ++ replicate zeros 0 → (bs ≡ n) ⊎ ((rest : List ℕ) × (bs ≡ n ++ 0 ∷ rest))
ends_or_stops bs n zero e = inl (e ∙ append-nil n)
ends_or_stops bs n (suc zeros) e = inr (replicate zeros 0, e)

fewest_zeros : (count : ℕ) → ((0 < count) × (4 * longword_count count - count < 4)) ⊎ ((count ≡ 0) × (4 * longword_count count - count ≡ 4))
fewest_zeros zero = inr (refl, refl)
fewest_zeros (suc count) = inl (omega arith, omega arith)

-- a name's longwords are its bytes and the fewest zeros
pub name_words-writes : (n : List ℕ) → All IsNameByte n → Writes n (name_words n)
name_words-writes n h =
    let bytes = recursion_from_All (λ b. b < 256) n (All-weaker IsNameByte (λ b. b < 256) (λ b k. k.1) n h) in
    record {
      zeros = 4 * longword_count (length n) - length n;
      bytes = words_from-bytes n 0 (longword_count (length n)) bytes (grind arith);
      fewest = fewest_zeros (length n);
    }

-- the number of longwords that a name takes
pub length-name_words : (n : List ℕ) → length (name_words n) ≡ longword_count (length n)
length-name_words n = length-map-range_with_len (λ k. big_number 4 (drop (4 * k) n)) 0 (longword_count (length n))

-- what is written for a name holds it
pub writes-names : (n ws : List ℕ) → All IsNameByte n → Writes n ws → Names n ws
writes-names n ws h w = record {
  no_zero = All-weaker IsNameByte (λ b. 0 < b) (λ b k. k.0) n h;
  bytes = ends_or_stops (bytes_of ws) n w.zeros w.bytes;
}

-- and is read back
pub name_of-name_words : (n : List ℕ) → All IsNameByte n → name_of (name_words n) ≡ n
name_of-name_words n h = sym (names-unique n (name_words n) (writes-names n (name_words n) h (name_words-writes n h)))

slice_index-lt : (bs : List ℕ) → AreBytes bs → (k : ℕ) → slice_index bs k < 256
slice_index-lt [] h k = omega arith
slice_index-lt (b ∷ bs) h zero = h.0
slice_index-lt (b ∷ bs) h (suc k) = slice_index-lt bs h.1 k

-- the longwords of a name are longwords
pub name_words-lt : (n : List ℕ) → All IsNameByte n → All (λ w. w < 2 ^ 32) (name_words n)
name_words-lt n h =
    let bytes = recursion_from_All (λ b. b < 256) n (All-weaker IsNameByte (λ b. b < 256) (λ b k. k.1) n h) in
    All-from_recursion (λ w. w < 2 ^ 32) (name_words n) (each (range_with_len 0 (longword_count (length n))) bytes)
  where
    each : (ks : List ℕ) → AreBytes n → AllByRecursion (λ w. w < 2 ^ 32) (map (λ k. big_number 4 (drop (4 * k) n)) ks)
    each [] b = tt
    each (k ∷ ks) b = (big_from-lt 0 4 (drop (4 * k) n) (slice_index-lt (drop (4 * k) n) (AreBytes-drop (4 * k) n b)), each ks b)
