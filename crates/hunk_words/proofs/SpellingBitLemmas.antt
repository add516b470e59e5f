-- A longword of two parts, taken apart again.
use Rattle.std.proofs.Common.{◌≡◌, ℕ, ◌+◌, ◌*◌, ◌/◌, ◌%◌, ◌^◌, ◌<◌, ap, subst, ◌∙◌, arith}
use Rattle.std.proofs.lemmas.Grind.{common_steps}
use Rattle.std.proofs.lemmas.Nat.{mod-mul-add, div-mul-add}
use Rattle.hunk_words.specs.Kinds.{Kind, low, bits, bound, width, type_of}
use Rattle.hunk_words.specs.FaultTable.{Passes}
use Rattle.hunk_words.specs.Kinds.Width.{long}
use Rattle.hunk_words.specs.Spelling.{joined_bits, type_longword}
use Rattle.hunk_words.specs.declared.kinds.BlockType.{BlockType}

-- the lower part is not too wide if the whole is a longword
pub joined_bits-lower : (unit high low : ℕ) → joined_bits unit high low < 2 ^ 32 → low < unit
unfolding joined_bits
joined_bits-lower unit high low h = grind (arith, common_steps)

pub joined_bits-sum : (unit high low : ℕ) → joined_bits unit high low < 2 ^ 32 → joined_bits unit high low ≡ high * unit + low
unfolding joined_bits
joined_bits-sum unit high low h = grind (arith, common_steps)

pub joined_bits-mod : (unit high low : ℕ) → joined_bits unit high low < 2 ^ 32 → joined_bits unit high low % unit ≡ low
joined_bits-mod unit high low h = ap (λ n. n % unit) (joined_bits-sum unit high low h) ∙ mod-mul-add high unit low (joined_bits-lower unit high low h)

pub joined_bits-div : (unit high low : ℕ) → joined_bits unit high low < 2 ^ 32 → joined_bits unit high low / unit ≡ high
joined_bits-div unit high low h = ap (λ n. n / unit) (joined_bits-sum unit high low h) ∙ div-mul-add high unit low (joined_bits-lower unit high low h)

-- ---- a type longword: two bits and the type

pub type_longword-low : (b t : ℕ) → type_longword b t < 2 ^ 32 → low (type_longword b t) ≡ t
type_longword-low b t h = joined_bits-mod (2 ^ 30) b t h

pub type_longword-bits : (b t : ℕ) → type_longword b t < 2 ^ 32 → bits (type_longword b t) ≡ b
type_longword-bits b t h = joined_bits-div (2 ^ 30) b t h

pub type_longword-type : (b t : ℕ) {y : BlockType} → type_of t ≡ y → type_longword b t < 2 ^ 32 → type_of (low (type_longword b t)) ≡ y
type_longword-type b t is h = ap (λ n. type_of n) (type_longword-low b t h) ∙ is

-- a number of a whole longword is below 2^32
pub long-fits : {k : Kind} {n : ℕ} → width k ≡ long → Passes k n → n < 2 ^ 32
long-fits {k} {n} is p = subst (λ w. n < bound w) is p.fits
