-- What `--version` prints.
use Rattle.std.specs.Prelude.{ℕ, List, codes}

-- the name of the program and its version
abbrev pub version_line : List ℕ
version_line = codes "amihunk 0.1.0\n"
