-- What loops keep that make the hunks of the load file, one after another.
use Rattle.std.proofs.Common.{◌≡◌, ℕ, suc, ◌+◌, ◌<◌, ◌≤◌, Bool, List, [], ◌∷◌, ◌++◌, length, get_or, map, take, drop, sym, ap, subst, ◌∙◌, append-nil, append_assoc, length-drop, arith}
use Rattle.std.specs.List.{All}
use Rattle.std.proofs.lemmas.List.{drop-drop, drop_at, length-append, length-map, length-take-le, take_at}
use Rattle.std.proofs.lemmas.List.Elements.{All-head, All-tail}
use Rattle.std.proofs.lemmas.List.Sums.{sum_by-cons}
use Rattle.hunk_loadfile.specs.LoadHunk.{FileHunk}
use Rattle.hunk_objects.specs.ProgramUnit.{ObjectUnit}
use Rattle.hunk_objects.specs.UnitHunk.{IsAmong, IsUnitHunk, ObjectHunk}
use Rattle.hunk_objects.specs.declared.unit_hunk.Adds.{Adds}
use Rattle.hunk_objects.specs.declared.unit_hunk.Adds.TheVariants.{Hunk, Reference}
use Rattle.hunk_link.specs.Addend.{addend_of, name_addend, reference_addends}
use Rattle.hunk_link.specs.Carried.{AddsKnown, AreCarried, IsKnown, all_addends, carried_hunk, carried_ranked, reference_count}
use Rattle.hunk_link.specs.Limits.{IsHunkCount}
use Rattle.hunk_link.specs.OwnHunks.{AllNameOwnHunks, IsOneOf, NamesOwnHunk, sites_in, sites_of}
use Rattle.hunk_link.specs.Ranks.{IsRanked, RankedHunk, hunks_from, hunks_of, items_of}
use Rattle.hunk_link.specs.SymbolTable.{Table}
use Rattle.hunk_link.specs.declared.addend.Addend.{Addend}
use Rattle.hunk_link.proofs.AllLemmas.{All-map-parts, All-parts}
use Rattle.hunk_link.proofs.RanksLemmas.{IsRanked-hunks_of, hunks_behind, ranked_hunk}

-- ---- what is added is known

IsKnown-one : (ranked : RankedHunk) (count : ℕ) (adds : Adds) → IsRanked ranked → IsOneOf ranked.count adds → IsAmong count adds → IsKnown ranked.first count adds
IsKnown-one ranked count (Hunk target) is own among = omega (arith, is.few, own)
IsKnown-one ranked count (Reference index) is own among = among

pub AddsKnown-ranked : (ranked : RankedHunk) (count : ℕ) → count ≡ length ranked.hunk.references → IsRanked ranked → IsUnitHunk ranked.hunk → AllNameOwnHunks (items_of sites_in ranked)
    → AddsKnown ranked.first count ranked.hunk
AddsKnown-ranked ranked count count_is is valid all =
    let sites = ranked.hunk.sites.entries in
    let own : All (λ (site : ℕ × Adds). IsOneOf ranked.count site.1) sites = All-map-parts NamesOwnHunk (λ site. (ranked, site)) sites all in
    let among = All-map-parts (IsAmong (length ranked.hunk.references)) (λ (site : ℕ × Adds). site.1) sites valid.adds in
    λ k d within. IsKnown-one ranked count (get_or sites k d).1 is (own k d within) (subst (λ n. IsAmong n (get_or sites k d).1) (sym count_is) (among k d within))

-- ---- one hunk after another

-- Some hunks of the load file are made, of hunks with `next` references; those that are left are made
-- of the others.
pub record Making (addends : List Addend) (strip : Bool) (all left : List RankedHunk) (next : ℕ) (made : List FileHunk) : Type 0 where
  pub room : length made + length left ≡ length all
  pub counted : length addends ≡ next + reference_count left
  pub ranks : All IsRanked left
  pub own : AllNameOwnHunks (sites_of left)
  pub behind : (table : Table) → addends ≡ all_addends table all → drop next addends ≡ all_addends table left
  pub value : (table : Table) → addends ≡ all_addends table all → made ++ map (carried_ranked table strip) left ≡ map (carried_ranked table strip) all

module _ (addends : List Addend) (strip : Bool) (all : List RankedHunk) where
  pub making-begun : (made : List FileHunk) → made ≡ [] → length addends ≡ reference_count all → All IsRanked all → AllNameOwnHunks (sites_of all) → Making addends strip all all 0 made
  making-begun made none counted ranks own = record {
    room = ap (λ hunks. length hunks + length all) none ∙ omega arith;
    counted = counted ∙ omega arith;
    ranks = ranks;
    own = own;
    behind = λ table is. is;
    value = λ table is. ap (λ hunks. hunks ++ map (carried_ranked table strip) all) none;
  }

  module _ (left : List RankedHunk) (next : ℕ) (made : List FileHunk) (kept : Making addends strip all left next made) where
    pub made-all : left ≡ [] → AreCarried all addends strip made
    made-all none table is =
        sym (append-nil made)
        ∙ ap (λ hunks. made ++ map (carried_ranked table strip) hunks) (sym none)
        ∙ kept.value table is

    pub room-left : (ranked : RankedHunk) (rest : List RankedHunk) → left ≡ ranked ∷ rest → length made < length all
    room-left ranked rest shown = omega (arith, kept.room, ap length shown)

    -- one more hunk, whose references are so many
    module _ (ranked : RankedHunk) (rest : List RankedHunk) (shown : left ≡ ranked ∷ rest) (count : ℕ) (count_is : count ≡ length ranked.hunk.references) where
      abbrev its_addends : List Addend
      its_addends = take count (drop next addends)

      counted-more : length addends ≡ (next + count) + reference_count rest
      counted-more =
          let of_left = ap reference_count shown ∙ sum_by-cons (λ (r : RankedHunk). length r.hunk.references) ranked rest in
          omega (arith, kept.counted, of_left, count_is)

      pub its_addends-inside : next + count ≤ length addends
      its_addends-inside = omega (arith, counted-more)

      its_addends-count : length its_addends ≡ count
      its_addends-count = length-take-le count (drop next addends) (omega (arith, counted-more, length-drop next addends))

      own-shown : AllNameOwnHunks (items_of sites_in ranked) × AllNameOwnHunks (sites_of rest)
      own-shown = All-parts NamesOwnHunk (items_of sites_in ranked) (sites_of rest) (subst (λ hunks. AllNameOwnHunks (sites_of hunks)) shown kept.own)

      ranks-shown : All IsRanked (ranked ∷ rest)
      ranks-shown = subst (All IsRanked) shown kept.ranks

      pub adds-known : IsUnitHunk ranked.hunk → AddsKnown ranked.first (length its_addends) ranked.hunk
      adds-known valid = AddsKnown-ranked ranked (length its_addends) (its_addends-count ∙ count_is) (All-head IsRanked ranked rest ranks-shown) valid own-shown.0

      module _ (table : Table) (is : addends ≡ all_addends table all) where
        behind-shown : drop next addends ≡ reference_addends table ranked.hunk ++ all_addends table rest
        behind-shown = kept.behind table is ∙ ap (all_addends table) shown

        reference_addends-count : length (reference_addends table ranked.hunk) ≡ count
        reference_addends-count = length-map ranked.hunk.references (name_addend table) ∙ sym count_is

        its_addends-are : its_addends ≡ reference_addends table ranked.hunk
        its_addends-are = ap (take count) behind-shown ∙ take_at (reference_addends table ranked.hunk) (all_addends table rest) count reference_addends-count

        behind-more : drop (next + count) addends ≡ all_addends table rest
        behind-more =
            sym (drop-drop count next addends)
            ∙ ap (drop count) behind-shown
            ∙ drop_at (reference_addends table ranked.hunk) (all_addends table rest) count reference_addends-count

      pub making-more : (hunk : FileHunk) → hunk ≡ carried_hunk (addend_of ranked.first its_addends) strip ranked.hunk → (made' : List FileHunk) → made' ≡ made ++ hunk ∷ [] → (next' : ℕ) → next' ≡ next + count → Making addends strip all rest next' made'
      making-more hunk hunk_is made' is_more next' next_is = record {
        room = omega (arith, kept.room, ap length shown, ap length is_more ∙ length-append made (hunk ∷ []));
        counted = omega (arith, counted-more);
        ranks = All-tail IsRanked ranked rest ranks-shown;
        own = own-shown.1;
        behind = λ table is. ap (λ n. drop n addends) next_is ∙ behind-more table is;
        value = λ table is.
            let make = carried_ranked table strip in
            let made_of_it : hunk ≡ make ranked = hunk_is ∙ ap (λ addends. carried_hunk (addend_of ranked.first addends) strip ranked.hunk) (its_addends-are table is) in
            ap (λ hunks. hunks ++ map make rest) is_more
            ∙ append_assoc made (hunk ∷ []) (map make rest)
            ∙ ap (λ h. made ++ h ∷ map make rest) made_of_it
            ∙ ap (λ hunks. made ++ map make hunks) (sym shown)
            ∙ kept.value table is;
      }

-- ---- unit after unit

module _ (addends : List Addend) (strip : Bool) (all : List RankedHunk) where
  -- the hunks of these units are left
  pub record BetweenUnits (units : List ObjectUnit) (next : ℕ) (made : List FileHunk) : Type 0 where
    pub unit : ℕ
    pub making : Making addends strip all (hunks_from unit (length made) units) next made

  -- the hunks of a unit that are left, and those of the units behind it
  abbrev pub left_in_unit : (unit first count number : ℕ) → List ObjectHunk → List ObjectUnit → List RankedHunk
  left_in_unit unit first count number hunks units = hunks_behind unit first count number hunks ++ hunks_from (suc unit) (first + count) units

  -- These are left. The first hunk of the unit has this rank.
  pub record InUnit (first : ℕ) (hunks : List ObjectHunk) (units : List ObjectUnit) (next : ℕ) (made : List FileHunk) : Type 0 where
    pub unit : ℕ
    pub count : ℕ
    pub number : ℕ
    pub ends : number + length hunks ≡ count
    pub place : length made ≡ first + number
    pub making : Making addends strip all (left_in_unit unit first count number hunks units) next made

  module _ (next : ℕ) (made : List FileHunk) where
    pub unit-begun : (units rest : List ObjectUnit) (u : ObjectUnit) (hunks : List ObjectHunk) (first : ℕ) → units ≡ u ∷ rest → hunks ≡ u.hunks → first ≡ length made
        → BetweenUnits units next made → InUnit first hunks rest next made
    unit-begun units rest u hunks first shown hunks_are first_is kept =
        let left = ap (hunks_from kept.unit (length made)) shown in
        let begun : InUnit (length made) u.hunks rest next made =
        record {
          unit = kept.unit;
          count = length u.hunks;
          number = 0;
          ends = omega arith;
          place = omega arith;
          making = subst (λ hunks. Making addends strip all hunks next made) left kept.making;
        } in
        subst (λ n. InUnit n hunks rest next made) (sym first_is) (subst (λ hs. InUnit (length made) hs rest next made) (sym hunks_are) begun)

    module _ (first : ℕ) (hunks : List ObjectHunk) (units : List ObjectUnit) (kept : InUnit first hunks units next made) where
      pub unit-ended : hunks ≡ [] → BetweenUnits units next made
      unit-ended none =
          let whole : length made ≡ first + kept.count = omega (arith, kept.ends, kept.place, ap length none) in
          let left = ap (λ hs. left_in_unit kept.unit first kept.count kept.number hs units) none ∙ ap (λ n. hunks_from (suc kept.unit) n units) (sym whole) in
          record { unit = suc kept.unit; making = subst (λ hs. Making addends strip all hs next made) left kept.making }

      module _ (hunk : ObjectHunk) (rest : List ObjectHunk) (shown : hunks ≡ hunk ∷ rest) where
        abbrev its_rank : RankedHunk
        its_rank = ranked_hunk kept.unit first kept.count (kept.number, hunk)

        abbrev left : List RankedHunk
        left = left_in_unit kept.unit first kept.count kept.number hunks units

        abbrev rest_left : List RankedHunk
        rest_left = left_in_unit kept.unit first kept.count (kept.number + 1) rest units

        left-shown : left ≡ its_rank ∷ rest_left
        left-shown = ap (λ hs. left_in_unit kept.unit first kept.count kept.number hs units) shown

        pub hunk-room : length made < length all
        hunk-room = room-left addends strip all left next made kept.making its_rank rest_left left-shown

        module _ (count : ℕ) (count_is : count ≡ length hunk.references) where
          pub hunk-inside : next + count ≤ length addends
          hunk-inside = its_addends-inside addends strip all left next made kept.making its_rank rest_left left-shown count count_is

          pub hunk-known : IsUnitHunk hunk → AddsKnown first (length (take count (drop next addends))) hunk
          hunk-known valid = adds-known addends strip all left next made kept.making its_rank rest_left left-shown count count_is valid

          pub hunk-more : (one : FileHunk) → one ≡ carried_hunk (addend_of first (take count (drop next addends))) strip hunk → (made' : List FileHunk) → made' ≡ made ++ one ∷ [] → (next' : ℕ) → next' ≡ next + count
              → InUnit first rest units next' made'
          hunk-more one one_is made' is_more next' next_is = record {
            unit = kept.unit;
            count = kept.count;
            number = kept.number + 1;
            ends = omega (arith, kept.ends, ap length shown);
            place = omega (arith, kept.place, ap length is_more ∙ length-append made (one ∷ []));
            making = making-more addends strip all left next made kept.making its_rank rest_left left-shown count count_is one one_is made' is_more next' next_is;
          }

pub units-begun : (addends : List Addend) (strip : Bool) (units : List ObjectUnit) (made : List FileHunk) → made ≡ [] → length addends ≡ reference_count (hunks_of units) → IsHunkCount (hunks_of units) → AllNameOwnHunks (sites_of (hunks_of units))
    → BetweenUnits addends strip (hunks_of units) units 0 made
units-begun addends strip units made none counted few own = record {
  unit = 0;
  making = subst (λ place. Making addends strip (hunks_of units) (hunks_from 0 place units) 0 made) (sym (ap length none))
      (making-begun addends strip (hunks_of units) made none counted (IsRanked-hunks_of units few) own);
}

pub units-made : (addends : List Addend) (strip : Bool) (all : List RankedHunk) (units : List ObjectUnit) (next : ℕ) (made : List FileHunk) → units ≡ [] → BetweenUnits addends strip all units next made → AreCarried all addends strip made
units-made addends strip all units next made none kept = made-all addends strip all (hunks_from kept.unit (length made) units) next made kept.making (ap (hunks_from kept.unit (length made)) none)
