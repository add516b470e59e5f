-- The names that hunks refer to and no hunk defines, as callers are told of them.
use Rattle.std.specs.Prelude.{ℕ, List, map}
use Rattle.hunk_tool.specs.ObjectFiles.{FileUnit}
use Rattle.hunk_origins.specs.Origins.{origins}
use Rattle.hunk_origins.specs.Undefined.{Use, undefined_uses}

-- a name; the file, the unit in this file and the hunk in this unit of its first reference; and the
-- number of references
pub record UndefinedName : Type 0 where
  pub name : List ℕ
  pub file : ℕ
  pub unit : ℕ
  pub hunk : ℕ
  pub references : ℕ

abbrev pub undefined_name : List ℕ × Use → UndefinedName
undefined_name used = record {
  name = used.0;
  file = used.1.origin.unit.0.file;
  unit = used.1.origin.unit.0.number;
  hunk = used.1.origin.number;
  references = used.1.count;
}

-- those of these files, each once, in the order of its first reference
abbrev pub undefined_names : List FileUnit → List UndefinedName
undefined_names files = map undefined_name (undefined_uses (origins files))
