-- The load file that units make: one hunk for each of theirs, in the order of their ranks.
use Rattle.std.specs.Prelude.{◌≡◌, ℕ, ◌*◌, ◌+◌, ◌^◌, ◌<◌, Bool, true, false, List, [], length, map, sum_by}
use Rattle.std.specs.List.{All, flat_map}
use Rattle.hunk_loadfile.specs.Laws.{second_sites}
use Rattle.hunk_loadfile.specs.LoadHunk.{FileHunk}
use Rattle.hunk_loadfile.specs.Patching.{patched_bytes}
use Rattle.hunk_objects.specs.ProgramUnit.{ObjectUnit}
use Rattle.hunk_objects.specs.UnitHunk.{ObjectHunk}
use Rattle.hunk_objects.specs.declared.unit_hunk.Adds.{Adds}
use Rattle.hunk_objects.specs.declared.unit_hunk.Adds.TheVariants.{Hunk, Reference}
use Rattle.hunk_link.specs.Addend.{addend_of, reference_addends}
use Rattle.hunk_link.specs.Ranks.{RankedHunk, hunks_of}
use Rattle.hunk_link.specs.SymbolTable.{Table, table_of}
use Rattle.hunk_link.specs.declared.addend.Addend.{Addend}

-- all of them, or none if they are stripped
abbrev pub unless_stripped : {T : Type 0} → Bool → List T → List T
unless_stripped true items = []
unless_stripped false items = items

-- Kind, memory and size are the same, and so are the symbols and debug blocks unless they are
-- stripped. At each site the linker adds what it knows, modulo 2^32; a site is left where a base is
-- still to be added.
abbrev pub carried_hunk : (Adds → Addend) → Bool → ObjectHunk → FileHunk
carried_hunk addend strip hunk = record {
  kind = hunk.kind;
  memory = hunk.memory;
  size = hunk.size;
  content = patched_bytes (length hunk.content) hunk.content hunk.sites.entries (λ adds. (addend adds).known);
  sites = record { limit = 4 * hunk.size; entries = second_sites (λ adds. (addend adds).base) hunk.sites.entries };
  symbols = unless_stripped strip hunk.symbols;
  debugs = unless_stripped strip hunk.debugs;
}

-- the hunk of a load file for this one, if the names have the meanings of the table
abbrev pub carried_ranked : Table → Bool → RankedHunk → FileHunk
carried_ranked table strip ranked = carried_hunk (addend_of ranked.first (reference_addends table ranked.hunk)) strip ranked.hunk

abbrev pub carried : List ObjectUnit → Bool → List FileHunk
carried units strip = map (carried_ranked (table_of (hunks_of units)) strip) (hunks_of units)

-- ---- in the code

-- The rank of a hunk of the unit fits in 32 bits, and a reference is one of `count`.
abbrev pub IsKnown : ℕ → ℕ → Adds → Type 0
IsKnown first count (Hunk target) = first + target < 2 ^ 32
IsKnown first count (Reference index) = index < count

-- each site of a hunk adds what is known
abbrev pub AddsKnown : ℕ → ℕ → ObjectHunk → Type 0
AddsKnown first count hunk = All (λ site. IsKnown first count site.1) hunk.sites.entries

-- what the references of the hunks add, in order
abbrev pub all_addends : Table → List RankedHunk → List Addend
all_addends table hunks = flat_map (λ ranked. reference_addends table ranked.hunk) hunks

-- so many references
abbrev pub reference_count : List RankedHunk → ℕ
reference_count hunks = sum_by (λ ranked. length ranked.hunk.references) hunks

-- the hunks of a load file for these ones, if the names have the meanings of a table
abbrev pub AreCarried : List RankedHunk → List Addend → Bool → List FileHunk → Type 0
AreCarried hunks addends strip made = (table : Table) → addends ≡ all_addends table hunks → made ≡ map (carried_ranked table strip) hunks
