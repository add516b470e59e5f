-- The number of the hunk is at most how many longwords there are; and a name after one more longword.
use Rattle.std.proofs.Common.{◌≡◌, ℕ, zero, suc, ◌≤◌, List, [], ◌∷◌, ◌++◌, length, ◌&&◌, not, Bool, true, false, if◌then◌else◌, Option, Some, None, refl, sym, ap, ◌∙◌, append-nil, arith}
use Rattle.std.proofs.lemmas.Grind.{flat_map-append}
use Rattle.byteorder.specs.Endian.{big_bytes}
use Rattle.hunk_base.specs.Name.{bytes_of}
use Rattle.hunk_words.specs.Kinds.{low, type_of}
use Rattle.hunk_words.specs.declared.due.Due.{Due}
use Rattle.hunk_words.specs.declared.due.Due.TheVariants.{Word}
use Rattle.hunk_words.specs.declared.kinds.BlockType.{BlockType}
use Rattle.hunk_words.specs.declared.kinds.BlockType.TheVariants.{Unit as unit, End as end}
use Rattle.hunk_files.specs.Path.{hunks_ended, is_type, types_of}
use Rattle.hunk_lint.specs.Oddity.{ends_early, has_nonzero, ignores_bytes, name_after}
use Rattle.hunk_lint.specs.Watch.{is_ignored, name_part, part_after, part_from}
use Rattle.hunk_lint.specs.declared.watch.NamePart.{NamePart}
use Rattle.hunk_lint.specs.declared.watch.NamePart.TheVariants.{Outside, Open, Ended, Ignored}

hunks-next-le : (is : Bool) (type : BlockType) (types : List BlockType) (most : ℕ) → hunks_ended types ≤ most → hunks_ended (if is then type ∷ types else types) ≤ suc most
hunks-next-le true unit types most le = omega arith
hunks-next-le true end types most le = omega (arith, le)
hunks-next-le true _ types most le = omega (arith, le)
hunks-next-le false type types most le = omega (arith, le)

pub hunks-few : (before : List (Due × ℕ)) → hunks_ended (types_of before) ≤ length before
hunks-few [] = omega arith
hunks-few (d ∷ before) = hunks-next-le (is_type d.0) (type_of (low d.1)) (types_of before) (length before) (hunks-few before)

-- ---- names

outside-stays : (bytes : List ℕ) → part_from Outside bytes ≡ Outside
outside-stays [] = refl
outside-stays (byte ∷ bytes) = outside-stays bytes

ignored-stays : (bytes : List ℕ) → part_from Ignored bytes ≡ Ignored
ignored-stays [] = refl
ignored-stays (byte ∷ bytes) = ignored-stays bytes

part-append : (part : NamePart) (first rest : List ℕ) → part_from part (first ++ rest) ≡ part_from (part_from part first) rest
part-append part [] rest = refl
part-append part (byte ∷ first) rest = part-append (part_after part byte) first rest

-- one more longword of a name
pub name-more : (part : NamePart) (word : ℕ) (name : Option (List ℕ)) → part ≡ name_part name → part_from part (big_bytes 4 word) ≡ name_part (name_after Word word name)
name-more part word None is = ap (λ p. part_from p (big_bytes 4 word)) is ∙ outside-stays (big_bytes 4 word)
name-more part word (Some words) is =
    let bytes : bytes_of (words ++ word ∷ []) ≡ bytes_of words ++ big_bytes 4 word =
    flat_map-append (λ w. big_bytes 4 w) words (word ∷ []) ∙ ap (λ last. bytes_of words ++ last) (append-nil (big_bytes 4 word)) in
    ap (λ p. part_from p (big_bytes 4 word)) is ∙ sym (part-append Open (bytes_of words) (big_bytes 4 word)) ∙ ap (λ all. part_from Open all) (sym bytes)

ended-nonzero : (bytes : List ℕ) → is_ignored (part_from Ended bytes) ≡ has_nonzero bytes
ended-nonzero [] = refl
ended-nonzero (zero ∷ bytes) = ended-nonzero bytes
ended-nonzero (suc byte ∷ bytes) = ap is_ignored (ignored-stays bytes)

open-early : (bytes : List ℕ) → is_ignored (part_from Open bytes) ≡ ends_early bytes
open-early [] = refl
open-early (zero ∷ bytes) = ended-nonzero bytes
open-early (suc byte ∷ bytes) = open-early bytes

ignored-is : (part : NamePart) (name : Option (List ℕ)) → part ≡ name_part name → is_ignored part ≡ ignores_bytes name
ignored-is part None is = ap is_ignored is
ignored-is part (Some words) is = ap is_ignored is ∙ open-early (bytes_of words)

pub becomes-ignored : (odd : Bool) (ahead after : NamePart) (name further : Option (List ℕ)) → odd ≡ (is_ignored after && not (is_ignored ahead)) → ahead ≡ name_part name → after ≡ name_part further
    → odd ≡ (ignores_bytes further && not (ignores_bytes name))
becomes-ignored odd ahead after name further becomes is is_further =
    becomes ∙ ap (λ b. b && not (is_ignored ahead)) (ignored-is after further is_further) ∙ ap (λ b. ignores_bytes further && not b) (ignored-is ahead name is)
