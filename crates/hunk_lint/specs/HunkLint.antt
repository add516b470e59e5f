-- What a loader or a processor will stumble over in the hunks of a file: its lines, as lists of bytes.
use Rattle.std.specs.Prelude.{ℕ, ◌==◌, if◌then◌else◌, List, [], ◌++◌, codes, length, Option, slice_get}
use Rattle.std.specs.Fmt.{decimal}
use Rattle.std.specs.List.{enumerate_from, flat_map}
use Rattle.std.specs.Option.{option_map}
use Rattle.hunk_base.specs.Text.{line}
use Rattle.hunk_objects.specs.ProgramUnit.{ObjectUnit}
use Rattle.hunk_objects.specs.UnitHunk.{ObjectHunk}
use Rattle.hunk_objects.specs.declared.unit_hunk.Adds.{Adds}
use Rattle.hunk_objects.specs.declared.unit_hunk.Adds.TheVariants.{Hunk, Reference}
use Rattle.hunk_loadfile.specs.LoadHunk.{FileHunk}
use Rattle.hunk_lint.specs.HunkLintLines.{absent_lints, odd_lints, past_lints, symbol_lints}
use Rattle.hunk_lint.specs.declared.hunk_lint_lines.HunkPlace.{HunkPlace}
use Rattle.hunk_lint.specs.declared.hunk_lint_lines.HunkPlace.TheVariants.{InLoad, InUnit}

-- ---- load files

-- the size of the hunk with this number, if there is one
abbrev pub load_size : List FileHunk → (number : ℕ) → Option ℕ
load_size hunks number = option_map (λ hunk. hunk.size) (slice_get hunks number)

abbrev pub load_site_lints : List FileHunk → HunkPlace → (content : List ℕ) → ℕ × ℕ → List ℕ
load_site_lints hunks place content site = odd_lints place site.0 ++ past_lints place content site.0 site.1 (load_size hunks site.1)

-- of one of these hunks, with its number
abbrev pub load_hunk_lints : List FileHunk → ℕ × FileHunk → List ℕ
load_hunk_lints hunks hunk =
    flat_map (load_site_lints hunks (InLoad hunk.0) hunk.1.content) hunk.1.sites.entries
    ++ flat_map (symbol_lints (InLoad hunk.0) hunk.1.size) hunk.1.symbols

-- of a load file with these hunks, numbered from 0
abbrev pub load_lints : List FileHunk → List ℕ
load_lints hunks = flat_map (load_hunk_lints hunks) (enumerate_from 0 hunks)

-- ---- object files

abbrev pub unit_size : List ObjectHunk → (number : ℕ) → Option ℕ
unit_size hunks number = option_map (λ hunk. hunk.size) (slice_get hunks number)

-- A site that adds a name may hold any offset.
abbrev pub target_lints : List ObjectHunk → HunkPlace → (content : List ℕ) (site : ℕ) → Adds → List ℕ
target_lints hunks place content site (Hunk target) =
    past_lints place content site target (unit_size hunks target) ++ absent_lints place site target (length hunks)
target_lints hunks place content site (Reference index) = []

abbrev pub unit_site_lints : List ObjectHunk → HunkPlace → (content : List ℕ) → ℕ × Adds → List ℕ
unit_site_lints hunks place content site = odd_lints place site.0 ++ target_lints hunks place content site.0 site.1

-- of one of the hunks of a unit, with its number
abbrev pub unit_hunk_lints : List ObjectHunk → (unit : ℕ) → ℕ × ObjectHunk → List ℕ
unit_hunk_lints hunks unit hunk =
    flat_map (unit_site_lints hunks (InUnit unit hunk.0) hunk.1.content) hunk.1.sites.entries
    ++ flat_map (symbol_lints (InUnit unit hunk.0) hunk.1.size) hunk.1.symbols

abbrev pub hunkless_line : (unit : ℕ) → List ℕ
hunkless_line unit = line (codes "unit " ++ decimal unit ++ codes ": no hunks")

-- of a unit with this many hunks
abbrev pub hunkless_lints : (unit count : ℕ) → List ℕ
hunkless_lints unit count = if count == 0 then hunkless_line unit else []

-- of a unit, with its number; its hunks are numbered from 0
abbrev pub unit_lints : ℕ × ObjectUnit → List ℕ
unit_lints unit =
    hunkless_lints unit.0 (length unit.1.hunks) ++ flat_map (unit_hunk_lints unit.1.hunks unit.0) (enumerate_from 0 unit.1.hunks)

-- of an object file with these units, numbered from 0
abbrev pub object_lints : List ObjectUnit → List ℕ
object_lints units = flat_map unit_lints (enumerate_from 0 units)
