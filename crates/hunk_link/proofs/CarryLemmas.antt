-- What the walk keeps that carries the sites of a hunk to a load file.
use Rattle.std.proofs.Common.{◌≡◌, ℕ, ◌+◌, ◌≤◌, List, [], ◌∷◌, ◌++◌, length, Option, Some, None, refl, sym, ap, subst, ◌∙◌, append-nil, append_assoc, arith}
use Rattle.std.specs.BTreeMap.{insert_entry}
use Rattle.std.specs.List.{All, cons_option}
use Rattle.std.specs.Option.{option_map}
use Rattle.std.specs.Ordering.{nat_cmp}
use Rattle.hunk_base.specs.Page.{LieWithin}
use Rattle.hunk_base.specs.Pages.{all_sites}
use Rattle.hunk_base.specs.Sites.{SiteMap, StandFrom}
use Rattle.hunk_base.proofs.PageLemmas.{LieWithin-append, LieWithin-weaker, insert_entry-between}
use Rattle.hunk_loadfile.specs.Laws.{second_sites}
use Rattle.hunk_loadfile.specs.Patching.{patched_bytes}
use Rattle.hunk_loadfile.proofs.PatchingLemmas.{length-patched_bytes, patched_bytes-first, patched_bytes-no_sites}
use Rattle.hunk_link.specs.declared.addend.Addend.{Addend}
use Rattle.hunk_link.proofs.AllLemmas.{All-parts}

-- The remaining sites, patched into the bytes as they are, yield what all sites yield on the bytes as
-- they were. The sites that were made, followed by those that the remaining ones make, are the first ones
-- and what all sites make; and those that were made lie before the remaining ones.
pub record Carrying {T : Type 0} (addend : T → Addend) (before : List ℕ) (all : List (ℕ × T)) (start : List (ℕ × ℕ)) (limit : ℕ) (now : List ℕ) (left : List (ℕ × T)) (made : SiteMap ℕ) : Type 0 where
  pub from : ℕ
  pub counted : length now ≡ length before
  pub apart : StandFrom from (length before) left
  pub behind : LieWithin 0 from made.entries
  pub content : patched_bytes (length before) now left (λ t. (addend t).known) ≡ patched_bytes (length before) before all (λ t. (addend t).known)
  pub sites : made.entries ++ second_sites (λ t. (addend t).base) left ≡ start ++ second_sites (λ t. (addend t).base) all
  pub limit_is : made.limit ≡ limit

-- the first of sites that are apart are
pub StandFrom-front : {T : Type 0} (from limit : ℕ) (xs ys : List (ℕ × T)) → StandFrom from limit (xs ++ ys) → StandFrom from limit xs
StandFrom-front from limit [] ys apart = tt
StandFrom-front from limit (x ∷ xs) ys apart = (apart.0, apart.1, StandFrom-front (x.0 + 4) limit xs ys apart.2)

-- what holds of the sites of all pages holds of those of the first one, and of the others
pub All-page : {T : Type 0} (P : ℕ × T → Type 0) (left rest : List (List (ℕ × T))) (page walk : List (ℕ × T)) → left ≡ page ∷ rest → walk ≡ page
    → All P (all_sites left) → All P walk × All P (all_sites rest)
All-page P left rest page walk shown walked all = All-parts P walk (all_sites rest) (subst (All P) (ap all_sites shown ∙ ap (λ sites. sites ++ all_sites rest) (sym walked)) all)

-- a site that is made, if any, before others
joined : (base : Option ℕ) (offset : ℕ) (rest : List (ℕ × ℕ))
    → cons_option (option_map (λ rank. (offset, rank)) base) [] ++ rest ≡ cons_option (option_map (λ rank. (offset, rank)) base) rest
joined None offset rest = refl
joined (Some rank) offset rest = refl

module _ {T : Type 0} (addend : T → Addend) (before : List ℕ) (all : List (ℕ × T)) (start : List (ℕ × ℕ)) (limit : ℕ) where
  abbrev known : T → ℕ
  known t = (addend t).known

  abbrev left_sites : List (ℕ × T) → List (ℕ × ℕ)
  left_sites sites = second_sites (λ t. (addend t).base) sites

  -- at its start
  pub carrying-all : (from : ℕ) (made : SiteMap ℕ) → LieWithin 0 from start → StandFrom from (length before) all → made ≡ record { limit = limit; entries = start }
      → Carrying addend before all start limit before all made
  carrying-all from made behind apart first = subst (Carrying addend before all start limit before all) (sym first)
      (record { from = from; counted = refl; apart = apart; behind = behind; content = refl; sites = refl; limit_is = refl })

  module _ (now : List ℕ) (left : List (ℕ × T)) (made : SiteMap ℕ) (kept : Carrying addend before all start limit now left made) where
    -- at its end
    module _ (none : left ≡ []) where
      pub carried-content : now ≡ patched_bytes (length before) before all known
      carried-content =
          sym (patched_bytes-no_sites {T = T} now known)
          ∙ ap (λ count. patched_bytes {T = T} count now [] known) kept.counted
          ∙ ap (λ sites. patched_bytes (length before) now sites known) (sym none)
          ∙ kept.content

      pub carried-sites : made ≡ record { limit = limit; entries = start ++ left_sites all }
      carried-sites =
          let entries : made.entries ≡ start ++ left_sites all = sym (append-nil made.entries) ∙ ap (λ sites. made.entries ++ left_sites sites) (sym none) ∙ kept.sites in
          let of : ℕ → List (ℕ × ℕ) → SiteMap ℕ = λ high sites. record { limit = high; entries = sites } in
          ap (λ high. of high made.entries) kept.limit_is ∙ ap (of limit) entries

    -- one more site
    module _ (rest : List (ℕ × T)) (site : ℕ × T) (shown : left ≡ site ∷ rest) where
      apart-shown : StandFrom kept.from (length before) (site ∷ rest)
      apart-shown = subst (StandFrom kept.from (length before)) shown kept.apart

      pub site-inside : site.0 + 4 ≤ length now
      site-inside = omega (arith, apart-shown.1, kept.counted)

      module _ (added : Addend) (is_added : added ≡ addend site.1) (new : List ℕ) (patched : new ≡ patched_bytes (length now) now ((site.0, added.known) ∷ []) (λ a. a)) where
        content-more : patched_bytes (length before) new rest known ≡ patched_bytes (length before) before all known
        content-more =
            ap (λ bytes. patched_bytes (length before) bytes rest known) patched
            ∙ ap (λ a. patched_bytes (length before) (patched_bytes (length now) now ((site.0, a.known) ∷ []) (λ b. b)) rest known) is_added
            ∙ patched_bytes-first now known site rest site-inside (length before) (length before) apart-shown.2
            ∙ ap (λ sites. patched_bytes (length before) now sites known) (sym shown)
            ∙ kept.content

        -- the sites that this one makes, if any, come last
        carrying-more : (base : Option ℕ) → added.base ≡ base → (next : SiteMap ℕ) → next.limit ≡ made.limit → LieWithin 0 (site.0 + 4) next.entries
            → next.entries ++ left_sites rest ≡ made.entries ++ cons_option (option_map (λ rank. (site.0, rank)) base) (left_sites rest) → Carrying addend before all start limit new rest next
        carrying-more base is next limit_is behind joined =
            let its_base : base ≡ (addend site.1).base = sym is ∙ ap (λ a. a.base) is_added in
            record {
              from = site.0 + 4;
              counted = ap length patched ∙ length-patched_bytes (length now) now ((site.0, added.known) ∷ []) (λ a. a) ∙ kept.counted;
              apart = apart-shown.2;
              behind = behind;
              content = content-more;
              sites =
                  joined
                  ∙ ap (λ b. made.entries ++ cons_option (option_map (λ rank. (site.0, rank)) b) (left_sites rest)) its_base
                  ∙ ap (λ sites. made.entries ++ left_sites sites) (sym shown)
                  ∙ kept.sites;
              limit_is = limit_is ∙ kept.limit_is;
            }

        behind-site : (high : ℕ) → site.0 ≤ high → LieWithin 0 high made.entries
        behind-site high low = LieWithin-weaker 0 kept.from 0 high made.entries (omega arith) (omega (arith, apart-shown.0)) kept.behind

        -- what is added is known
        pub carrying-known : added.base ≡ None → Carrying addend before all start limit new rest made
        carrying-known none = carrying-more None none made refl (behind-site (site.0 + 4) (omega arith)) refl

        -- or a base is still to be added
        pub carrying-left : (rank : ℕ) (next : SiteMap ℕ) → added.base ≡ Some rank → next ≡ record made { entries = insert_entry nat_cmp made.entries site.0 rank } → Carrying addend before all start limit new rest next
        carrying-left rank next some is =
            let one : List (ℕ × ℕ) = (site.0, rank) ∷ [] in
            let entries : next.entries ≡ made.entries ++ one =
            ap (λ m. m.entries) is
            ∙ ap (λ entries. insert_entry nat_cmp entries site.0 rank) (sym (append-nil made.entries))
            ∙ insert_entry-between 0 0 site.0 rank made.entries [] (behind-site site.0 (omega arith)) tt in
            carrying-more (Some rank) some next (ap (λ m. m.limit) is)
            (subst (LieWithin 0 (site.0 + 4)) (sym entries) (LieWithin-append 0 (site.0 + 4) made.entries one (behind-site (site.0 + 4) (omega arith)) (omega arith, omega arith, tt)))
            (ap (λ sites. sites ++ left_sites rest) entries ∙ append_assoc made.entries one (left_sites rest))

        -- whatever is added
        carrying-one : (base : Option ℕ) → added.base ≡ base → Carrying addend before all start limit new rest (record made { entries = made.entries ++ cons_option (option_map (λ rank. (site.0, rank)) base) [] })
        carrying-one None none = subst (Carrying addend before all start limit new rest) (ap (λ entries. record made { entries = entries }) (sym (append-nil made.entries))) (carrying-known none)
        carrying-one (Some rank) some =
            let one : List (ℕ × ℕ) = (site.0, rank) ∷ [] in
            carrying-more (Some rank) some (record made { entries = made.entries ++ one }) refl
            (LieWithin-append 0 (site.0 + 4) made.entries one (behind-site (site.0 + 4) (omega arith)) (omega arith, omega arith, tt))
            (append_assoc made.entries one (left_sites rest))

  -- the sites of one more part, all at once
  pub carrying-part : (part rest : List (ℕ × T)) (now : List ℕ) (made : SiteMap ℕ) → Carrying addend before all start limit now (part ++ rest) made
      → Carrying addend before all start limit (patched_bytes (length now) now part known) rest (record made { entries = made.entries ++ left_sites part })
  carrying-part [] rest now made kept =
      subst (λ entries. Carrying addend before all start limit (patched_bytes {T = T} (length now) now [] known) rest (record made { entries = entries })) (sym (append-nil made.entries))
      (subst (λ bytes. Carrying addend before all start limit bytes rest made) (sym (patched_bytes-no_sites {T = T} now known)) kept)
  carrying-part (site ∷ part) rest now made kept =
      let after : List ℕ = patched_bytes (length now) now ((site.0, known site.1) ∷ []) (λ a. a) in
      let one : List (ℕ × ℕ) = cons_option (option_map (λ rank. (site.0, rank)) (addend site.1).base) [] in
      let first = carrying-one now (site ∷ part ++ rest) made kept (part ++ rest) site refl (addend site.1) refl after refl (addend site.1).base refl in
      let more = carrying-part part rest after (record made { entries = made.entries ++ one }) first in
      let apart : StandFrom (site.0 + 4) (length before) part = StandFrom-front (site.0 + 4) (length before) part rest kept.apart.2 in
      let inside : site.0 + 4 ≤ length now = site-inside now (site ∷ part ++ rest) made kept (part ++ rest) site refl in
      let counted : length after ≡ length now = length-patched_bytes (length now) now ((site.0, known site.1) ∷ []) (λ a. a) in
      let bytes : patched_bytes (length after) after part known ≡ patched_bytes (length now) now (site ∷ part) known =
      ap (λ count. patched_bytes count after part known) counted ∙ patched_bytes-first now known site part inside (length now) (length before) apart in
      let sites : (made.entries ++ one) ++ left_sites part ≡ made.entries ++ left_sites (site ∷ part) = append_assoc made.entries one (left_sites part) ∙ ap (λ more. made.entries ++ more) (joined (addend site.1).base site.0 (left_sites part)) in
      subst (λ entries. Carrying addend before all start limit (patched_bytes (length now) now (site ∷ part) known) rest (record made { entries = entries })) sites
      (subst (λ now. Carrying addend before all start limit now rest (record made { entries = (made.entries ++ one) ++ left_sites part })) bytes more)

  -- the sites of one more page
  module _ (left rest : List (List (ℕ × T))) (page walk : List (ℕ × T)) (shown : left ≡ page ∷ rest) (walked : walk ≡ page)
      (now : List ℕ) (made : SiteMap ℕ) (kept : Carrying addend before all start limit now (all_sites left) made) where
    with_page : Carrying addend before all start limit now (walk ++ all_sites rest) made
    with_page = subst (λ sites. Carrying addend before all start limit now sites made) (ap all_sites shown ∙ ap (λ sites. sites ++ all_sites rest) (sym walked)) kept

    pub page-behind : (from : ℕ) × LieWithin 0 from made.entries × StandFrom from (length now) walk
    page-behind = (
      with_page.from,
      with_page.behind,
      subst (λ count. StandFrom with_page.from count walk) (sym with_page.counted) (StandFrom-front with_page.from (length before) walk (all_sites rest) with_page.apart),
    )

    pub carrying-page : (new : List ℕ) (next : SiteMap ℕ) → new ≡ patched_bytes (length now) now walk known → next ≡ record made { entries = made.entries ++ left_sites walk }
        → Carrying addend before all start limit new (all_sites rest) next
    carrying-page new next bytes sites = rw (bytes, sites) (carrying-part walk (all_sites rest) now made with_page)
