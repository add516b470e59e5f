-- What is odd about the longwords of three files, worked by hand.
use Rattle.std.proofs.Common.{◌≡◌, [], ◌∷◌, refl}
use Rattle.hunk_words.specs.Kinds.{entry_of, type_of}
use Rattle.hunk_words.specs.declared.event.FileKind.TheVariants.{Load, Object}
use Rattle.hunk_lint.specs.Oddity.{lint_at, longword_lints}
use Rattle.hunk_lint.specs.declared.oddity.Oddity.TheVariants as oddity_is

-- a load file with a hunk of one longword of CODE: bits 30 of its type and size are set, its RELOC32 is empty,
-- and the name of its symbol is 61 00 62 00
code : longword_lints Load (1011 ∷ 0 ∷ 1 ∷ 0 ∷ 0 ∷ 1 ∷ 1073742825 ∷ 1073741825 ∷ 0 ∷ 1004 ∷ 0 ∷ 1008 ∷ 1 ∷ 1627415040 ∷ 0 ∷ 0 ∷ 1010 ∷ [])
    ≡ lint_at 6 oddity_is.TypeBits ∷ lint_at 7 oddity_is.SizeBits ∷ lint_at 10 oddity_is.NoOffsets ∷ lint_at 13 oddity_is.NameBytes ∷ []
unfolding type_of entry_of
code = refl

-- a load file whose header has the size 2, with a hunk named `a` of one longword of BSS, and two groups of
-- RELOC32SHORT for hunk 0
bss : longword_lints Load (1011 ∷ 0 ∷ 1 ∷ 0 ∷ 0 ∷ 2 ∷ 1000 ∷ 1 ∷ 1627389952 ∷ 1003 ∷ 1 ∷ 1020 ∷ 65536 ∷ 1 ∷ 4 ∷ 0 ∷ 1010 ∷ [])
    ≡ lint_at 6 oddity_is.HunkName ∷ lint_at 10 oddity_is.BssSize ∷ lint_at 14 (oddity_is.SameHunk 0) ∷ []
unfolding type_of entry_of
bss = refl

-- an object file with a hunk of two longwords of CODE in chip memory, two groups of RELOC32 for hunk 0, and an
-- ext_ref32 of `a` without offsets
object : longword_lints Object (999 ∷ 0 ∷ 1073742825 ∷ 2 ∷ 0 ∷ 0 ∷ 1004 ∷ 1 ∷ 0 ∷ 0 ∷ 1 ∷ 0 ∷ 4 ∷ 0 ∷ 1007 ∷ 2164260865 ∷ 1627389952 ∷ 0 ∷ 0 ∷ 1010 ∷ [])
    ≡ lint_at 11 (oddity_is.SameHunk 0) ∷ lint_at 17 oddity_is.NoReferences ∷ []
unfolding type_of entry_of
object = refl
