-- What is known of the longwords before the next one of a file.
use Rattle.std.specs.Prelude.{◌≡◌, ℕ, zero, suc, Bool, true, false, List, [], ◌∷◌, Option, Some, None}
use Rattle.std.specs.BTreeSet.{BTreeSet, contains}
use Rattle.std.specs.Ordering.{nat_cmp}
use Rattle.hunk_base.specs.Name.{bytes_of}
use Rattle.hunk_words.specs.declared.due.Due.{Due}
use Rattle.hunk_files.specs.Path.{hunks_ended, types_of}
use Rattle.hunk_lint.specs.Oddity.{begun as block_begun, has_number, header_sizes, hunks_named, name_so_far}
use Rattle.hunk_lint.specs.declared.watch.NamePart.{NamePart}
use Rattle.hunk_lint.specs.declared.watch.NamePart.TheVariants.{Outside, Open, Ended, Ignored}
use Rattle.hunk_lint.specs.declared.watch.Watch.{Watch}

-- what a name is after one more byte
abbrev pub part_after : NamePart → ℕ → NamePart
part_after Open zero = Ended
part_after Ended (suc byte) = Ignored
part_after part byte = part

abbrev pub part_from : NamePart → List ℕ → NamePart
part_from part [] = part
part_from part (byte ∷ bytes) = part_from (part_after part byte) bytes

-- what the name with these longwords is so far, if there is one
abbrev pub name_part : Option (List ℕ) → NamePart
name_part None = Outside
name_part (Some words) = part_from Open (bytes_of words)

abbrev pub is_ignored : NamePart → Bool
is_ignored Ignored = true
is_ignored part = false

-- The set has the hunks that the groups so far of a relocation block name.
abbrev pub HasHunksNamed : BTreeSet ℕ → List (Due × ℕ) → Type 0
HasHunksNamed named before = (number : ℕ) → contains nat_cmp named number ≡ has_number (hunks_named before) number

-- It is that of these longwords, the latest first.
pub record IsWatchOf {A : Type 0} (watch : Watch A) (before : List (Due × ℕ)) : Type 0 where
  pub begun : watch.begun ≡ block_begun before
  pub hunk : watch.hunk ≡ hunks_ended (types_of before)
  pub name : watch.name ≡ name_part (name_so_far before)
  pub named : HasHunksNamed watch.named before
  pub sizes : watch.sizes.items ≡ header_sizes before
