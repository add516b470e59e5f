-- How names are hashed with a key.
use Rattle.std.specs.Prelude.{ℕ, ◌++◌}
use Rattle.std.specs.Hash.{u64}
use Rattle.std.specs.List.{fold}
use Rattle.std.specs.Hash.DefaultHasher.{initial, write}
use Rattle.std.specs.declared.hash.DefaultHasher.{DefaultHasher}

-- what has hashed the two halves of a key, and nothing else
abbrev pub begun_with : (first second : ℕ) → DefaultHasher
begun_with first second = fold write initial (u64 first ++ u64 second)
