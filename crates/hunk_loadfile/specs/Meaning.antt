-- What a load file means: its hunks as they are in memory before any base is added.
use Rattle.std.specs.Prelude.{◌≡◌, ℕ, ◌*◌, List, map}
use Rattle.std.specs.List.{range_with_len}
use Rattle.hunk_words.specs.declared.kinds.HunkKind.{HunkKind}
use Rattle.hunk_words.specs.declared.kinds.Memory.{Memory}
use Rattle.hunk_loadfile.specs.LoadHunk.{FileHunk}
use Rattle.hunk_loadfile.specs.Patching.{byte_or_zero}

-- What the hunk holds, the memory it asks for, its size in longwords, its bytes up to its size, and the
-- offsets of its sites with their targets.
pub record Meaning : Type 0 where
  pub kind : HunkKind
  pub memory : Memory
  pub size : ℕ
  pub bytes : List ℕ
  pub sites : List (ℕ × ℕ)

abbrev pub meaning : FileHunk → Meaning
meaning hunk = record {
  kind = hunk.kind;
  memory = hunk.memory;
  size = hunk.size;
  bytes = map (byte_or_zero hunk.content) (range_with_len 0 (4 * hunk.size));
  sites = hunk.sites.entries;
}

-- The two files load as the same hunks. Zeros that one of them leaves to the loader make no difference, nor
-- do symbols and debug blocks.
abbrev pub MeansTheSame : List FileHunk → List FileHunk → Type 0
MeansTheSame first second = map meaning first ≡ map meaning second
