-- Laws about linking.
use Rattle.std.specs.Prelude.{◌≡◌, ℕ, ◌<◌, Bool, List, length, map, Some, None}
use Rattle.std.specs.List.{All, slice_get}
use Rattle.hunk_loadfile.specs.LoadHunk.{FileHunk}
use Rattle.hunk_loadfile.specs.Rules.{build_fault}
use Rattle.hunk_objects.specs.ProgramUnit.{ObjectUnit}
use Rattle.hunk_link.specs.Carried.{carried}
use Rattle.hunk_link.specs.Linkable.{IsLinkRefusal, Linkable}
use Rattle.hunk_link.specs.Ranks.{IsUnit, RankedHunk, hunks_of, rank_of}
use Rattle.hunk_link.specs.declared.refusal.LinkRefusal.{LinkRefusal}
use Rattle.hunk_link.specs.declared.refusal.LinkRefusal.TheVariants.{OutOfMemory}

-- The rank of a hunk is its place in the order of linking.
abbrev pub RankIsPlace : Type 0
RankIsPlace = (units : List ObjectUnit) (place : ℕ) (ranked : RankedHunk) → slice_get (hunks_of units) place ≡ Some ranked → place ≡ rank_of ranked

-- The hunks of the load file have the sizes of the units' hunks, by rank.
abbrev pub SizesAreCarried : Type 0
SizesAreCarried = (units : List ObjectUnit) (strip : Bool) → map (λ hunk. hunk.size) (carried units strip) ≡ map (λ ranked. ranked.hunk.size) (hunks_of units)

-- each of its sites names one of `count` hunks
abbrev pub NamesRanks : ℕ → FileHunk → Type 0
NamesRanks count hunk = All (λ site. site.1 < count) hunk.sites.entries

-- Each target of the load file is the rank of a hunk.
abbrev pub TargetsAreRanks : Type 0
TargetsAreRanks =
    (units : List ObjectUnit) (strip : Bool) → All IsUnit units → Linkable units strip → All (NamesRanks (length (hunks_of units))) (carried units strip)

-- The load file breaks no rule for its hunks.
abbrev pub CarriedIsAccepted : Type 0
CarriedIsAccepted = (units : List ObjectUnit) (strip : Bool) → All IsUnit units → Linkable units strip → build_fault (carried units strip) ≡ None

-- Units that link are refused only if memory ran out.
abbrev pub LinkableOrRefused : Type 0 → Type 0
LinkableOrRefused A = (units : List ObjectUnit) (strip : Bool) (refusal : LinkRefusal A) → Linkable units strip → IsLinkRefusal units strip refusal → refusal ≡ OutOfMemory
