-- The lines about small files, worked by hand.
use Rattle.std.proofs.Common.{◌≡◌, [], ◌∷◌, ◌++◌, codes, refl}
use Rattle.std.specs.Fmt.{digits}
use Rattle.hex.specs.Hex.{encode_with}
use Rattle.hunk_base.specs.Text.{line}
use Rattle.hunk_words.specs.declared.kinds.HunkKind.TheVariants.{Code, Data}
use Rattle.hunk_words.specs.declared.kinds.Memory.TheVariants.{Any}
use Rattle.hunk_objects.specs.UnitHunk.{ObjectHunk}
use Rattle.hunk_objects.specs.declared.unit_hunk.Adds.TheVariants.{Hunk, Reference}
use Rattle.hunk_loadfile.specs.LoadHunk.{FileHunk}
use Rattle.hunk_lint.specs.HunkLint.{load_lints, object_lints}

-- Code of three longwords, of which the first is stored. At offset 1 stand three of its bytes and a zero. At 6
-- stand zeros. The end of the hunk has a symbol, and so has the byte after it.
abbrev code : FileHunk
code = record {
  kind = Code;
  memory = Any;
  size = 3;
  content = 1 ∷ 2 ∷ 3 ∷ 4 ∷ [];
  sites = record { limit = 12; entries = (1, 1) ∷ (6, 1) ∷ [] };
  symbols = (codes "end", 12) ∷ (codes "past", 13) ∷ [];
  debugs = [];
}

-- A longword that points to the end of its own hunk.
abbrev last : FileHunk
last = record { kind = Data; memory = Any; size = 1; content = 0 ∷ 0 ∷ 0 ∷ 4 ∷ []; sites = record { limit = 4; entries = (0, 1) ∷ [] }; symbols = []; debugs = [] }

pub load-example : load_lints (code ∷ last ∷ [])
    ≡ line (codes "hunk 0: site 00000001 is at an odd offset") ++ line (codes "hunk 0: site 00000001 points to 02030400 of hunk 1, which has 4 bytes")
    ++ line (codes "hunk 0: symbol \"past\" 0000000d is past the hunk, which has 12 bytes")
unfolding digits encode_with
load-example = refl

-- A longword that points past its own hunk, and one to which the base of a hunk is added that is not there.
abbrev piece : ObjectHunk
piece = record {
  name = [];
  kind = Code;
  memory = Any;
  size = 2;
  content = 0 ∷ 0 ∷ 0 ∷ 9 ∷ 0 ∷ 0 ∷ 0 ∷ 9 ∷ [];
  sites = record { limit = 8; entries = (0, Hunk 0) ∷ (4, Hunk 2) ∷ [] };
  references = [];
  definitions = [];
  symbols = [];
  debugs = [];
}

-- A site of a name, at an odd offset.
abbrev named : ObjectHunk
named = record piece { sites = record { limit = 8; entries = (3, Reference 0) ∷ [] }; references = codes "name" ∷ [] }

pub object-example : object_lints (record { name = []; hunks = piece ∷ named ∷ [] } ∷ record { name = []; hunks = [] } ∷ [])
    ≡ line (codes "unit 0 hunk 0: site 00000000 points to 00000009 of hunk 0, which has 8 bytes")
    ++ line (codes "unit 0 hunk 0: site 00000004 adds hunk 2, and the unit has 2 hunks") ++ line (codes "unit 0 hunk 1: site 00000003 is at an odd offset")
    ++ line (codes "unit 1: no hunks")
unfolding digits encode_with
object-example = refl
