-- What the steps of linking tell, put together.
use Rattle.std.proofs.Common.{◌≡◌, Bool, None, List, [], ◌∷◌, length, map, refl, sym, ap, subst, ◌∙◌, length-append, arith}
use Rattle.std.specs.List.{All}
use Rattle.std.proofs.lemmas.List.{length-map}
use Rattle.std.proofs.lemmas.List.Sums.{sum_by-cons}
use Rattle.hunk_loadfile.specs.LoadHunk.{FileHunk}
use Rattle.hunk_loadfile.specs.Rules.{build_fault}
use Rattle.hunk_objects.specs.ProgramUnit.{ObjectUnit}
use Rattle.hunk_link.specs.Addend.{name_addend, reference_addends}
use Rattle.hunk_link.specs.Carried.{AreCarried, all_addends, carried, carried_ranked, reference_count}
use Rattle.hunk_link.specs.Limits.{IsHunkCount, IsSmall}
use Rattle.hunk_link.specs.Linkable.{Linkable}
use Rattle.hunk_link.specs.OwnHunks.{AllNameOwnHunks, sites_of}
use Rattle.hunk_link.specs.Ranks.{IsUnit, RankedHunk, hunks_of}
use Rattle.hunk_link.specs.References.{AllDefined, references_of}
use Rattle.hunk_link.specs.SymbolTable.{DefinedOnce, Table, definitions_of, table_of}
use Rattle.hunk_link.specs.declared.addend.Addend.{Addend}
use Rattle.hunk_link.proofs.CarriedLawsLemmas.{carried-accepted}

-- what linking the names of the hunks tells
pub record AreLinked (hunks : List RankedHunk) (addends : List Addend) : Type 0 where
  pub own_hunks : AllNameOwnHunks (sites_of hunks)
  pub once : DefinedOnce (definitions_of hunks)
  pub defined : AllDefined (table_of hunks) (references_of hunks)
  pub added : addends ≡ all_addends (table_of hunks) hunks

-- a reference adds one addend
length-all_addends : (table : Table) (hunks : List RankedHunk) → length (all_addends table hunks) ≡ reference_count hunks
length-all_addends table [] = refl
length-all_addends table (ranked ∷ hunks) =
    omega (
      arith,
      length-append (reference_addends table ranked.hunk) (all_addends table hunks),
      length-map ranked.hunk.references (name_addend table),
      length-all_addends table hunks,
      sum_by-cons (λ (r : RankedHunk). length r.hunk.references) ranked hunks,
    )

-- the hunks are all hunks of the units
pub linked-all : (units : List ObjectUnit) (hunks : List RankedHunk) (addends : List Addend) → hunks ≡ hunks_of units
    → AllNameOwnHunks (sites_of hunks) → DefinedOnce (definitions_of hunks) → AllDefined (table_of hunks) (references_of hunks) → addends ≡ all_addends (table_of hunks) hunks
    → AreLinked (hunks_of units) addends
linked-all units hunks addends all own_hunks once defined added =
    subst (λ hs. AreLinked hs addends) all (record { own_hunks = own_hunks; once = once; defined = defined; added = added })

module _ (units : List ObjectUnit) (strip : Bool) (addends : List Addend) (linked : AreLinked (hunks_of units) addends) where
  -- with the hunks and the addends as another step has them
  module _ (hunks : List RankedHunk) (given : List Addend) (all : hunks ≡ hunks_of units) (same : given ≡ addends) where
    pub reference_count-linked : length given ≡ reference_count hunks
    reference_count-linked = ap length (same ∙ linked.added) ∙ length-all_addends (table_of (hunks_of units)) (hunks_of units) ∙ ap reference_count (sym all)

    pub carried-linked : (made : List FileHunk) → AreCarried hunks given strip made → made ≡ carried units strip
    carried-linked made are =
        let table = table_of (hunks_of units) in
        are table (same ∙ linked.added ∙ ap (all_addends table) (sym all)) ∙ ap (map (carried_ranked table strip)) all

  module _ (counted : IsHunkCount (hunks_of units)) (small : IsSmall strip (hunks_of units)) where
    pub linkable-linked : Linkable units strip
    linkable-linked = record { counted = counted; small = small; own_hunks = linked.own_hunks; once = linked.once; defined = linked.defined }

    pub accepted-linked : All IsUnit units → (made : List FileHunk) → made ≡ carried units strip → build_fault made ≡ None
    accepted-linked typed made is = ap build_fault is ∙ carried-accepted units strip typed linkable-linked
