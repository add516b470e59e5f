-- What a buffer holds after bytes were copied into it.
use Rattle.std.specs.Prelude.{ℕ, List, ◌++◌, length, take, drop}

-- the bytes, as many as fit, and what is left of the buffer after them
abbrev pub laid_over : (bytes buffer : List ℕ) → List ℕ
laid_over bytes buffer = take (length buffer) bytes ++ drop (length bytes) buffer
