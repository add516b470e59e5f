-- The blocks that longwords begin, after one more, and how many there are.
use Rattle.std.proofs.Common.{◌≡◌, ℕ, suc, ◌+◌, ◌≤◌, Some, List, [], ◌∷◌, ◌++◌, length, reverse, if◌then◌else◌, Bool, true, false, refl, ap, ◌∙◌, arith}
use Rattle.std.proofs.lemmas.List.{reverse-append, length-reverse}
use Rattle.hunk_words.specs.Kinds.{Kind, low, type_of, width}
use Rattle.hunk_words.specs.Machine.{due}
use Rattle.hunk_words.specs.Reading.{start_of, word_next}
use Rattle.hunk_words.specs.Due.{dues_from, dues_read}
use Rattle.hunk_words.specs.declared.due.Due.{Due}
use Rattle.hunk_words.specs.declared.event.FileKind.{FileKind}
use Rattle.hunk_words.specs.declared.kinds.BlockType.{BlockType}
use Rattle.hunk_words.specs.declared.kinds.BlockType.TheVariants.{Unit as unit, End as end}
use Rattle.hunk_files.specs.Path.{IsPathOf, blocks_begun, hunks_ended, is_type, types_of, units_begun}
use Rattle.hunk_files.specs.declared.path.Path.{Path}

-- ---- after one more longword

types-next : (is : Bool) (type : BlockType) (xs ys zs : List BlockType) → xs ≡ ys ++ zs → (if is then type ∷ xs else xs) ≡ (if is then type ∷ ys else ys) ++ zs
types-next true type xs ys zs same = ap (λ types. type ∷ types) same
types-next false type xs ys zs same = same

types-append : (ds es : List (Due × ℕ)) → types_of (ds ++ es) ≡ types_of ds ++ types_of es
types-append [] es = refl
types-append (d ∷ ds) es = types-next (is_type d.0) (type_of (low d.1)) (types_of (ds ++ es)) (types_of ds) (types_of es) (types-append ds es)

reverse-next : (is : Bool) (type : BlockType) (types : List BlockType) → reverse (types ++ (if is then type ∷ [] else [])) ≡ (if is then type ∷ reverse types else reverse types)
reverse-next true type types = reverse-append types (type ∷ [])
reverse-next false type types = reverse-append types []

pub blocks-next : (kind : FileKind) (ws : List ℕ) (w : ℕ) (due : Due) → dues_read kind (ws ++ w ∷ []) ≡ dues_read kind ws ++ (due, w) ∷ []
    → blocks_begun kind (ws ++ w ∷ []) ≡ (if is_type due then type_of (low w) ∷ blocks_begun kind ws else blocks_begun kind ws)
blocks-next kind ws w due read =
    ap (λ ds. reverse (types_of ds)) read
    ∙ ap (λ types. reverse types) (types-append (dues_read kind ws) ((due, w) ∷ []))
    ∙ reverse-next (is_type due) (type_of (low w)) (types_of (dues_read kind ws))

-- ---- how many

pub units-le : (types : List BlockType) → units_begun types ≤ length types
units-le [] = omega arith
units-le (unit ∷ types) = omega (arith, units-le types)
units-le (_ ∷ types) = omega (arith, units-le types)

pub hunks-le : (types : List BlockType) → hunks_ended types ≤ length types
hunks-le [] = omega arith
hunks-le (unit ∷ types) = omega arith
hunks-le (end ∷ types) = omega (arith, hunks-le types)
hunks-le (_ ∷ types) = omega (arith, hunks-le types)

length-dues : (stack : List Kind) (ws : List ℕ) → length (dues_from stack ws) ≡ length ws
length-dues stack [] = refl
length-dues stack (w ∷ ws) = let rest = length-dues (word_next (width (due stack)) stack w) ws in omega (arith, rest)

length-next-le : (is : Bool) (type : BlockType) (types : List BlockType) (most : ℕ) → length types ≤ most → length (if is then type ∷ types else types) ≤ suc most
length-next-le true type types most le = omega (arith, le)
length-next-le false type types most le = omega (arith, le)

length-types-le : (ds : List (Due × ℕ)) → length (types_of ds) ≤ length ds
length-types-le [] = omega arith
length-types-le (d ∷ ds) = length-next-le (is_type d.0) (type_of (low d.1)) (types_of ds) (length ds) (length-types-le ds)

pub length-blocks-le : (kind : FileKind) (ws : List ℕ) → length (blocks_begun kind ws) ≤ length ws
length-blocks-le kind ws =
    let ds = dues_read kind ws in
    omega (arith, length-reverse (types_of ds), length-types-le ds, length-dues (start_of kind ∷ []) ws)

-- ---- after one more block

pub IsPathOf-unit : (path : Path) (types : List BlockType) (units : ℕ) → IsPathOf path types → units ≡ path.units + 1 → IsPathOf (record { units = units; hunks = 0; block = Some unit }) (unit ∷ types)
IsPathOf-unit path types units is more = record { units = omega (arith, more, is.units); hunks = refl; block = refl }

pub IsPathOf-end : (path : Path) (types : List BlockType) (hunks : ℕ) → IsPathOf path types → hunks ≡ path.hunks + 1 → IsPathOf (record { units = path.units; hunks = hunks; block = Some end }) (end ∷ types)
IsPathOf-end path types hunks is more = record { units = is.units; hunks = omega (arith, more, is.hunks); block = refl }
