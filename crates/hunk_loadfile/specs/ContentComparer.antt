-- What is known of a content that came in runs: where it first differs from another one.
use Rattle.std.specs.Prelude.{◌≡◌, ℕ, ◌+◌, not, List, length, drop, Option}
use Rattle.std.specs.Option.{option_map}
use Rattle.hunk_loadfile.specs.Difference.{has_same_byte, lowest, unlike_byte}
use Rattle.hunk_loadfile.specs.Patching.{byte_or_zero}
use Rattle.hunk_loadfile.specs.declared.content_comparer.ContentComparer.{ContentComparer}

-- how many bytes came, and where they first differ from those of the first content, with zeros after it
pub record Follows (comparer : ContentComparer) (first content : List ℕ) : Type 0 where
  pub count : comparer.count ≡ length content
  pub unlike : comparer.unlike ≡ unlike_byte first content (length content)

-- where these bytes, which stand from `start` on, first differ from the first content
abbrev pub unlike_in : List ℕ → ℕ → List ℕ → Option (ℕ × ℕ)
unlike_in first start bytes =
    option_map (λ offset. (start + offset, byte_or_zero bytes offset))
    (lowest (λ offset. not (has_same_byte (drop start first) bytes offset)) 0 (length bytes))
