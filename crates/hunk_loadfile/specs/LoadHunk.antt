-- The hunks of a load file, as contracts see them: records of their fields, with every Vec as a
-- list.
use Rattle.std.specs.Prelude.{ℕ, List}
use Rattle.hunk_base.specs.Sites.{SiteMap}
use Rattle.hunk_words.specs.declared.kinds.HunkKind.{HunkKind}
use Rattle.hunk_words.specs.declared.kinds.Memory.{Memory}

-- A hunk of a load file. Its size is in longwords, and its content in bytes; a site has the number
-- of the hunk whose base is added there; a symbol is a name and a value, and a debug block its
-- longwords.
pub record FileHunk : Type 0 where
  pub kind : HunkKind
  pub memory : Memory
  pub size : ℕ
  pub content : List ℕ
  pub sites : SiteMap ℕ
  pub symbols : List (List ℕ × ℕ)
  pub debugs : List (List ℕ)
