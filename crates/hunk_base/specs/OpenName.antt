-- What an open name stands for: the longwords that it has taken.
use Rattle.std.specs.Prelude.{◌≡◌, ℕ, ◌<◌, ◌≤◌, List, length, true, false}
use Rattle.hunk_base.specs.Name.{bytes_of, name_of}
use Rattle.hunk_base.specs.declared.name.open_name.OpenName.{OpenName}

-- the bytes of the name so far
abbrev pub bytes_so_far : {A : Type 0} → OpenName A → List ℕ
bytes_so_far n = n.bytes

-- It holds their name, and has ended if a byte of them is zero.
pub record Opens {A : Type 0} (n : OpenName A) (ws : List ℕ) : Type 0 where
  pub name : n.bytes ≡ name_of ws
  pub ended : n.ended ≡ true → length (name_of ws) < length (bytes_of ws)
  pub goes_on : n.ended ≡ false → length (bytes_of ws) ≤ length (name_of ws)
