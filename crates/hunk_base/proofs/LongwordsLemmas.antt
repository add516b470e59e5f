-- Longwords of bytes that come in pieces: lemmas that go four bytes at a time.
use Rattle.std.proofs.Common.{◌≡◌, ℕ, ◌+◌, ◌*◌, ◌/◌, ◌%◌, ◌≤◌, List, [], ◌∷◌, ◌++◌, length, take, drop, refl, sym, ap, ◌∙◌, append_assoc, length-drop, arith}
use Rattle.std.proofs.Math.Seq.{take-add}
use Rattle.std.proofs.lemmas.List.{append-nil, take-append-drop, length-take-le}
use Rattle.byteorder.specs.Endian.{big_number}
use Rattle.hunk_base.specs.Longwords.{longwords, unfinished, IsWhole}

pub unfinished-append : (bytes more : List ℕ) → unfinished (bytes ++ more) ≡ unfinished (unfinished bytes ++ more)
unfinished-append [] more = refl
unfinished-append (a ∷ []) more = refl
unfinished-append (a ∷ b ∷ []) more = refl
unfinished-append (a ∷ b ∷ c ∷ []) more = refl
unfinished-append (a ∷ b ∷ c ∷ d ∷ bytes) more = unfinished-append bytes more

pub longwords-append : (bytes more : List ℕ) → longwords (bytes ++ more) ≡ longwords bytes ++ longwords (unfinished bytes ++ more)
longwords-append [] more = refl
longwords-append (a ∷ []) more = refl
longwords-append (a ∷ b ∷ []) more = refl
longwords-append (a ∷ b ∷ c ∷ []) more = refl
longwords-append (a ∷ b ∷ c ∷ d ∷ bytes) more = ap (λ ws. big_number 4 (a ∷ b ∷ c ∷ d ∷ []) ∷ ws) (longwords-append bytes more)

pub length-unfinished : (bytes : List ℕ) → length (unfinished bytes) ≤ 3
length-unfinished [] = omega arith
length-unfinished (a ∷ []) = omega arith
length-unfinished (a ∷ b ∷ []) = omega arith
length-unfinished (a ∷ b ∷ c ∷ []) = omega arith
length-unfinished (a ∷ b ∷ c ∷ d ∷ bytes) = length-unfinished bytes

-- Fewer than four bytes are not a longword.
pub unfinished-short : (bytes : List ℕ) → length bytes ≤ 3 → unfinished bytes ≡ bytes
unfinished-short [] h = refl
unfinished-short (a ∷ []) h = refl
unfinished-short (a ∷ b ∷ []) h = refl
unfinished-short (a ∷ b ∷ c ∷ []) h = refl
unfinished-short (a ∷ b ∷ c ∷ d ∷ bytes) h = absurd (omega arith)

pub longwords-short : (bytes : List ℕ) → length bytes ≤ 3 → longwords bytes ≡ []
longwords-short [] h = refl
longwords-short (a ∷ []) h = refl
longwords-short (a ∷ b ∷ []) h = refl
longwords-short (a ∷ b ∷ c ∷ []) h = refl
longwords-short (a ∷ b ∷ c ∷ d ∷ bytes) h = absurd (omega arith)

-- each longword has four bytes
pub length-longwords : (bytes : List ℕ) → length bytes ≡ 4 * length (longwords bytes) + length (unfinished bytes)
length-longwords [] = refl
length-longwords (a ∷ []) = refl
length-longwords (a ∷ b ∷ []) = refl
length-longwords (a ∷ b ∷ c ∷ []) = refl
length-longwords (a ∷ b ∷ c ∷ d ∷ bytes) = omega (arith, length-longwords bytes)

pub list-none : (bytes : List ℕ) → length bytes ≡ 0 → bytes ≡ []
list-none [] none = refl
list-none (b ∷ bytes) none = absurd (omega arith)

pub unfinished-none : (bytes : List ℕ) (n : ℕ) → length bytes ≡ 4 * n → unfinished bytes ≡ []
unfinished-none bytes n whole = list-none (unfinished bytes) (omega (arith, length-longwords bytes, length-unfinished bytes))

-- a number of bytes that four divides is whole
pub IsWhole-length : (bytes : List ℕ) → length bytes % 4 ≡ 0 → IsWhole bytes
IsWhole-length bytes whole = unfinished-none bytes (length bytes / 4) (omega arith)

longwords-four : (bytes : List ℕ) → length bytes ≡ 4 → longwords bytes ≡ big_number 4 bytes ∷ []
longwords-four [] four = absurd (omega arith)
longwords-four (a ∷ []) four = absurd (omega arith)
longwords-four (a ∷ b ∷ []) four = absurd (omega arith)
longwords-four (a ∷ b ∷ c ∷ []) four = absurd (omega arith)
longwords-four (a ∷ b ∷ c ∷ d ∷ bytes) four = let e : bytes ≡ [] = list-none bytes (omega arith) in rw e refl

-- one more longword
pub longwords-next : (bytes : List ℕ) (i : ℕ) → 4 * i + 4 ≤ length bytes
    → longwords (take (4 * (i + 1)) bytes) ≡ longwords (take (4 * i) bytes) ++ big_number 4 (take 4 (drop (4 * i) bytes)) ∷ []
longwords-next bytes i within =
    let front = take (4 * i) bytes in
    let four = take 4 (drop (4 * i) bytes) in
    let next : 4 * (i + 1) ≡ 4 * i + 4 = omega arith in
    let none : unfinished front ≡ [] = unfinished-none front i (length-take-le (4 * i) bytes (omega arith)) in
    ap (λ n. longwords (take n bytes)) next ∙ ap longwords (take-add (4 * i) 4 bytes) ∙ longwords-append front four
    ∙ ap (λ xs. longwords front ++ longwords (xs ++ four)) none
    ∙ ap (λ ws. longwords front ++ ws) (longwords-four four (length-take-le 4 (drop (4 * i) bytes) (omega (arith, length-drop (4 * i) bytes))))

-- all longwords come before the bytes left over
pub longwords-front : (bytes : List ℕ) (n : ℕ) → 4 * n ≤ length bytes → length bytes ≤ 4 * n + 3 → longwords (take (4 * n) bytes) ≡ longwords bytes
longwords-front bytes n within few =
    let front = take (4 * n) bytes in
    let rest = drop (4 * n) bytes in
    let none : unfinished front ≡ [] = unfinished-none front n (length-take-le (4 * n) bytes within) in
    sym (ap longwords (sym (take-append-drop (4 * n) bytes)) ∙ longwords-append front rest ∙ ap (λ xs. longwords front ++ longwords (xs ++ rest)) none
    ∙ ap (λ ws. longwords front ++ ws) (longwords-short rest (omega (arith, length-drop (4 * n) bytes))) ∙ append-nil (longwords front))

-- one more longword after others
pub words-next : (ws bytes : List ℕ) (i word : ℕ) → 4 * i + 4 ≤ length bytes → word ≡ big_number 4 (take 4 (drop (4 * i) bytes))
    → (ws ++ longwords (take (4 * i) bytes)) ++ word ∷ [] ≡ ws ++ longwords (take (4 * (i + 1)) bytes)
words-next ws bytes i word within is =
    append_assoc ws (longwords (take (4 * i) bytes)) (word ∷ [])
    ∙ ap (λ us. ws ++ us) (ap (λ w. longwords (take (4 * i) bytes) ++ w ∷ []) is ∙ sym (longwords-next bytes i within))

-- the longwords of the first bytes, and what comes after them
pub words-rest : (ws bytes : List ℕ) (n : ℕ) → (ws ++ longwords (take n bytes)) ++ longwords (unfinished (take n bytes) ++ drop n bytes) ≡ ws ++ longwords bytes
words-rest ws bytes n =
    append_assoc ws (longwords (take n bytes)) _
    ∙ ap (λ us. ws ++ us) (sym (longwords-append (take n bytes) (drop n bytes)) ∙ ap longwords (take-append-drop n bytes))

-- the first longword after others
pub words-first : (ws bytes : List ℕ) (word : ℕ) → 4 ≤ length bytes → word ≡ big_number 4 (take 4 bytes) → ws ++ word ∷ [] ≡ ws ++ longwords (take 4 bytes)
words-first ws bytes word within is = ap (λ w. ws ++ w ∷ []) is ∙ ap (λ us. ws ++ us) (sym (longwords-four (take 4 bytes) (length-take-le 4 bytes within)))

-- some more longwords after others
pub words-more : (ws bytes : List ℕ) (i n : ℕ) → 4 * i ≤ length bytes → (ws ++ longwords (take (4 * i) bytes)) ++ longwords (take (4 * n) (drop (4 * i) bytes)) ≡ ws ++ longwords (take (4 * (i + n)) bytes)
words-more ws bytes i n within =
    let front = take (4 * i) bytes in
    let more = take (4 * n) (drop (4 * i) bytes) in
    let next : 4 * i + 4 * n ≡ 4 * (i + n) = omega arith in
    let none : unfinished front ≡ [] = unfinished-none front i (length-take-le (4 * i) bytes within) in
    append_assoc ws (longwords front) (longwords more)
    ∙ ap (λ us. ws ++ us) (ap (λ xs. longwords front ++ longwords (xs ++ more)) (sym none) ∙ sym (longwords-append front more) ∙ ap longwords (sym (take-add (4 * i) (4 * n) bytes)) ∙ ap (λ m. longwords (take m bytes)) next)

-- all longwords after whole ones
pub words-all : (ws bytes : List ℕ) (i : ℕ) → 4 * i ≤ length bytes → (ws ++ longwords (take (4 * i) bytes)) ++ longwords (drop (4 * i) bytes) ≡ ws ++ longwords bytes
words-all ws bytes i within =
    let none : unfinished (take (4 * i) bytes) ≡ [] = unfinished-none (take (4 * i) bytes) i (length-take-le (4 * i) bytes within) in
    ap (λ xs. (ws ++ longwords (take (4 * i) bytes)) ++ longwords (xs ++ drop (4 * i) bytes)) (sym none) ∙ words-rest ws bytes (4 * i)

-- the number of whole longwords
pub length-whole : (bytes : List ℕ) (n : ℕ) → length bytes ≡ 4 * n → length (longwords bytes) ≡ n
length-whole bytes n whole = omega (arith, length-longwords bytes, length-unfinished bytes)
