-- The bytes of longwords, and of the parts of a load file.
use Rattle.std.proofs.Common.{◌≡◌, ◌==◌, ◌<◌, ◌≤◌, ◌+◌, ◌*◌, ◌-◌, ◌^◌, ◌∙◌, ℕ, zero, suc, List, [], ◌∷◌, ◌++◌, length, take, sum_by, replicate, Bool, false, Vec, sym, ap, refl, arith}
use Rattle.byteorder.specs.Endian.{big_bytes}
use Rattle.std.proofs.lemmas.Grind.{flat_map-append}
use Rattle.std.proofs.lemmas.List.{length-append, length-replicate}
use Rattle.std.proofs.lemmas.List.Elements.{All-cons, All-nil}
use Rattle.std.proofs.lemmas.List.Sums.{sum_by-cons}
use Rattle.std.specs.List.{All, flat_map}
use Rattle.hunk_base.specs.Longwords.{longwords}
use Rattle.hunk_base.specs.Name.{IsNameByte, bytes_of, longword_count, name_words}
use Rattle.hunk_base.proofs.LongwordsLemmas.{length-whole}
use Rattle.hunk_base.proofs.NameLemmas.{length-name_words, name_words-writes}
use Rattle.hunk_words.specs.declared.kinds.HunkKind.TheVariants.{Code, Data, Bss}
use Rattle.hunk_words.specs.DebugInfo.{lists_of}
use Rattle.hunk_loadfile.specs.Rules.{debug_longwords}
use Rattle.hunk_loadfile.specs.WrittenForm.{content_words, symbol_words, symbols_words}

-- ---- bytes of longwords

pub length-bytes_of : (ws : List ℕ) → length (bytes_of ws) ≡ 4 * length ws
length-bytes_of [] = refl
length-bytes_of (w ∷ ws) = omega (arith, length-bytes_of ws)

pub bytes_of-append : (ws more : List ℕ) → bytes_of (ws ++ more) ≡ bytes_of ws ++ bytes_of more
bytes_of-append ws more = flat_map-append (big_bytes 4) ws more

pub bytes_of-flat_map : {X : Type 0} (part : X → List ℕ) (xs : List X) → bytes_of (flat_map part xs) ≡ flat_map (λ x. bytes_of (part x)) xs
bytes_of-flat_map part [] = refl
bytes_of-flat_map part (x ∷ xs) = bytes_of-append (part x) (flat_map part xs) ∙ ap (λ t. bytes_of (part x) ++ t) (bytes_of-flat_map part xs)

-- ---- names and symbols

-- the bytes of a name's longwords
bytes_of-name_words : (n : List ℕ) (zeros : ℕ) → All IsNameByte n → length n + zeros ≡ 4 * longword_count (length n) → bytes_of (name_words n) ≡ n ++ replicate zeros 0
bytes_of-name_words n zeros h count =
    let w = name_words-writes n h in
    let z : ℕ = 0 in
    let same : w.zeros ≡ zeros = omega (arith, count, ap length w.bytes, length-append n (replicate w.zeros z), length-replicate w.zeros z, length-bytes_of (name_words n), length-name_words n) in
    w.bytes ∙ ap (λ (k : ℕ). n ++ replicate k 0) same

-- `zeros` zeros of four
pub zeros_of : (zeros : ℕ) → zeros ≤ 4 → take {A = ℕ} zeros (0 ∷ 0 ∷ 0 ∷ 0 ∷ []) ≡ replicate zeros 0
zeros_of zero few = refl
zeros_of (suc zero) few = refl
zeros_of (suc (suc zero)) few = refl
zeros_of (suc (suc (suc zero))) few = refl
zeros_of (suc (suc (suc (suc zero)))) few = refl
zeros_of (suc (suc (suc (suc (suc n))))) few = absurd (omega arith)

pub name_fill : (bytes count : ℕ) → count ≡ longword_count bytes → (4 * count - bytes ≤ 4) × (bytes + (4 * count - bytes) ≡ 4 * longword_count bytes)
name_fill bytes count is = (omega arith, omega arith)

-- a name, and the zeros that pad its longwords
pub name_words-bytes : (n bytes : List ℕ) (count : ℕ) → bytes ≡ n → All IsNameByte n → count ≡ longword_count (length bytes)
    → bytes_of (name_words n) ≡ bytes ++ take {A = ℕ} (4 * count - length bytes) (0 ∷ 0 ∷ 0 ∷ 0 ∷ [])
name_words-bytes n bytes count is h counted =
    let zeros : ℕ = 4 * count - length bytes in
    let fill = name_fill (length bytes) count counted in
    bytes_of-name_words n zeros h (omega (arith, ap length is, fill.1, ap (λ (t : List ℕ). longword_count (length t)) is))
    ∙ ap (λ (t : List ℕ). t ++ replicate zeros 0) (sym is) ∙ ap (λ (t : List ℕ). bytes ++ t) (sym (zeros_of zeros fill.0))

-- the bytes of a symbol
pub symbol-bytes : (s : List ℕ × ℕ) (count : ℕ) → count ≡ longword_count (length s.0) → bytes_of (symbol_words s) ≡ bytes_of (count ∷ []) ++ (bytes_of (name_words s.0) ++ bytes_of (s.1 ∷ []))
symbol-bytes s count is =
    ap (λ (k : ℕ). bytes_of (k ∷ name_words s.0 ++ s.1 ∷ [])) (length-name_words s.0 ∙ sym is)
    ∙ ap (λ (bytes : List ℕ). bytes_of (count ∷ []) ++ bytes) (bytes_of-append (name_words s.0) (s.1 ∷ []))

-- the bytes of a symbol block
pub symbols-bytes : (ss : List (List ℕ × ℕ)) (empty : Bool) → empty ≡ (length ss == 0) → empty ≡ false
    → bytes_of (symbols_words ss) ≡ bytes_of (1008 ∷ []) ++ (flat_map (λ s. bytes_of (symbol_words s)) ss ++ bytes_of (0 ∷ []))
symbols-bytes [] empty is some = cc
symbols-bytes (s ∷ ss) empty is some =
    ap (λ (bytes : List ℕ). bytes_of (1008 ∷ []) ++ bytes) (bytes_of-append (flat_map symbol_words (s ∷ ss)) (0 ∷ []) ∙ ap (λ (bytes : List ℕ). bytes ++ bytes_of (0 ∷ [])) (bytes_of-flat_map symbol_words (s ∷ ss)))

-- ---- debug blocks

-- the length of each fits its longword
pub debugs-short : {A : Type 0} (debugs : List (Vec ℕ A)) → sum_by debug_longwords (lists_of debugs) ≤ 2 ^ 28 → All (λ debug. length debug.items < 2 ^ 32) debugs
debugs-short [] few = All-nil _
debugs-short {A} (debug ∷ debugs) few =
    let IsShort : Vec ℕ A → Type 0 = λ v. length v.items < 2 ^ 32 in
    let all = sum_by-cons debug_longwords debug.items (lists_of debugs) in
    All-cons IsShort debug debugs (omega (arith, few, all)) (debugs-short debugs (omega (arith, few, all)))

-- ---- content

pub content_words-code : (size stored : ℕ) (bytes : List ℕ) → 4 * stored ≡ length bytes → 1001 ∷ stored ∷ longwords bytes ≡ content_words Code size (longwords bytes)
content_words-code size stored bytes count = ap (λ (n : ℕ). 1001 ∷ n ∷ longwords bytes) (sym (length-whole bytes stored (sym count)))

pub content_words-data : (size stored : ℕ) (bytes : List ℕ) → 4 * stored ≡ length bytes → 1002 ∷ stored ∷ longwords bytes ≡ content_words Data size (longwords bytes)
content_words-data size stored bytes count = ap (λ (n : ℕ). 1002 ∷ n ∷ longwords bytes) (sym (length-whole bytes stored (sym count)))

pub content_words-bss : (size : ℕ) (bytes : List ℕ) → length bytes ≤ 0 → 1003 ∷ size ∷ longwords bytes ≡ content_words Bss size (longwords bytes)
content_words-bss size [] none = refl
content_words-bss size (b ∷ bytes) none = absurd (omega arith)
