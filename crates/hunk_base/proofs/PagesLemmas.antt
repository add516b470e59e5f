-- What holds of the pages of a hunk's sites.
use Rattle.std.proofs.Common.{◌≡◌, ℕ, zero, suc, ◌+◌, ◌-◌, ◌*◌, ◌/◌, ◌<◌, ◌≤◌, inl, inr, IsSome, Bool, true, false, if◌then◌else◌, List, [], ◌∷◌, ◌++◌, length, get_or, set, replicate, refl, sym, ap, ◌∙◌, ◌↔◌, arith, append_assoc}
use Rattle.std.proofs.lemmas.List.{get_or_read, replicate_more, set-get_or}
use Rattle.std.proofs.lemmas.Bool.{cases_lt}
use Rattle.std.specs.Ordering.{nat_cmp}
use Rattle.std.specs.BTreeMap.{insert_entry}
use Rattle.hunk_base.specs.Page.{LieInPage, LieWithin}
use Rattle.hunk_base.specs.Pages.{AppendsEmptyPages, LieInPages, all_sites, page_at}
use Rattle.hunk_base.specs.Sites.{Meets, SharesByte, target_at}
use Rattle.hunk_base.proofs.PageLemmas.{LieWithin-weaker, LieWithin-append, LieWithin-insert_entry, target_at-outside, target_at-append_left, target_at-append_right, IsSome-append_left, IsSome-append_right, insert_entry-append_left, insert_entry-append_right}

-- the sites of a page lie there
pub LieInPages-page_at : {T : Type 0} (first number : ℕ) (pages : List (List (ℕ × T)))
    → LieInPages first pages → LieWithin (4096 * (first + number)) (4096 * (first + number) + 4099) (page_at pages number)
LieInPages-page_at first number [] within = tt
LieInPages-page_at first zero (page ∷ pages) within = LieWithin-weaker (4096 * first) (4096 * first + 4099) (4096 * (first + 0)) (4096 * (first + 0) + 4099) page (omega arith) (omega arith) within.0
LieInPages-page_at first (suc number) (page ∷ pages) within =
    LieWithin-weaker (4096 * (first + 1 + number)) (4096 * (first + 1 + number) + 4099) (4096 * (first + suc number)) (4096 * (first + suc number) + 4099) (page_at pages number)
    (omega arith) (omega arith) (LieInPages-page_at (first + 1) number pages within.1)

-- also those of one that was read
pub LieInPages-read : {T : Type 0} (number offset : ℕ) (page : List (ℕ × T)) (pages : List (List (ℕ × T)))
    → LieInPages 0 pages → number ≡ offset / 4096 → number < length pages → page ≡ get_or pages number page → LieInPage (offset / 4096) page
LieInPages-read number offset page pages within is_number inside read =
    let page_is : page ≡ page_at pages number = get_or_read pages number page inside read [] in
    let own : 0 + number ≡ offset / 4096 = omega arith in
    rw (page_is, ← own) (LieInPages-page_at 0 number pages within)

-- and the sites of all pages between their ends
pub LieInPages-all_sites : {T : Type 0} (first : ℕ) (pages : List (List (ℕ × T)))
    → LieInPages first pages → LieWithin (4096 * first) (4096 * (first + length pages) + 3) (all_sites pages)
LieInPages-all_sites first [] within = tt
LieInPages-all_sites first (page ∷ pages) within =
    let low : ℕ = 4096 * first in
    let high : ℕ = 4096 * (first + suc (length pages)) + 3 in
    LieWithin-append low high page (all_sites pages)
    (LieWithin-weaker (4096 * first) (4096 * first + 4099) low high page (omega arith) (omega arith) within.0)
    (LieWithin-weaker (4096 * (first + 1)) (4096 * (first + 1 + length pages) + 3) low high (all_sites pages) (omega arith) (omega arith) (LieInPages-all_sites (first + 1) pages within.1))

-- a look-up looks at one page
pub target_at-all_sites : {T : Type 0} (first number offset : ℕ) (pages : List (List (ℕ × T)))
    → LieInPages first pages → 4096 * (first + number) ≤ offset → offset < 4096 * (first + number) + 4096
    → target_at (all_sites pages) offset ≡ target_at (page_at pages number) offset
target_at-all_sites first number offset [] within low high = refl
target_at-all_sites first zero offset (page ∷ pages) within low high =
    target_at-append_left offset page (all_sites pages)
    (target_at-outside (4096 * (first + 1)) (4096 * (first + 1 + length pages) + 3) offset (all_sites pages) (LieInPages-all_sites (first + 1) pages within.1) (inl (omega arith)))
target_at-all_sites first (suc number) offset (page ∷ pages) within low high =
    target_at-append_right offset page (all_sites pages)
    (target_at-outside (4096 * first) (4096 * first + 4099) offset page within.0 (inr (omega arith)))
    ∙ target_at-all_sites (first + 1) number offset pages within.1 (omega arith) (omega arith)

-- what is found in a page is found
IsSome-all_sites : {T : Type 0} (number offset : ℕ) (pages : List (List (ℕ × T))) → IsSome (target_at (page_at pages number) offset) → IsSome (target_at (all_sites pages) offset)
IsSome-all_sites number offset [] found = cc
IsSome-all_sites zero offset (page ∷ pages) found = IsSome-append_left offset page (all_sites pages) found
IsSome-all_sites (suc number) offset (page ∷ pages) found = IsSome-append_right offset page (all_sites pages) (IsSome-all_sites number offset pages found)

pub Meets-all_sites : {T : Type 0} (number offset : ℕ) (pages : List (List (ℕ × T))) → Meets (page_at pages number) offset → Meets (all_sites pages) offset
Meets-all_sites number offset pages meets = (meets.0, IsSome-all_sites number meets.0 pages meets.1, meets.2)

-- a site that meets one meets one of its own page, where it meets none of the page of the third byte before it, nor of the
-- page that its last byte lies in
pub Meets-pages : {T : Type 0} (offset before number after : ℕ) (pages : List (List (ℕ × T))) → LieInPages 0 pages
    → before ≡ (offset - 3) / 4096 → number ≡ offset / 4096 → after ≡ (offset + 3) / 4096
    → (before < number → Meets (page_at pages before) offset → ⊥) → (number < after → Meets (page_at pages after) offset → ⊥)
    → Meets (all_sites pages) offset → Meets (page_at pages number) offset
Meets-pages offset before number after pages within is_before is_number is_after free_before free_after meets =
    let other : ℕ = meets.0 in
    let its : ℕ = other / 4096 in
    let near : SharesByte offset other = meets.2 in
    let here : target_at (all_sites pages) other ≡ target_at (page_at pages its) other = target_at-all_sites 0 its other pages within (omega arith) (omega arith) in
    let found : IsSome (target_at (page_at pages its) other) = rw here at meets.1 in
    let there : Meets (page_at pages its) offset = (other, found, near) in
    elim (cases_lt its number) [
      | inl below ↦ let same : its ≡ before = omega arith in absurd (free_before (omega arith) (rw same at there))
      | inr above ↦ elim (cases_lt number its) [
        | inl beyond ↦ let same : its ≡ after = omega arith in absurd (free_after (omega arith) (rw same at there))
        | inr equal ↦ let same : its ≡ number = omega arith in (rw same at there)
      ]
    ]

-- where a site meets none but those of its own page, what its page refuses is refused
pub overlaps-own_page : {T : Type 0} (offset number : ℕ) (refused : Type 0) (pages : List (List (ℕ × T)))
    → (Meets (all_sites pages) offset → Meets (page_at pages number) offset) → (refused ↔ Meets (page_at pages number) offset) → refused ↔ Meets (all_sites pages) offset
overlaps-own_page offset number refused pages own overlap = (λ no. Meets-all_sites number offset pages (overlap.0 no), λ meets. overlap.1 (own meets))

-- an insertion into its page is an insertion into all sites
pub all_sites-set : {T : Type 0} (first number offset : ℕ) (target : T) (pages : List (List (ℕ × T)))
    → LieInPages first pages → number < length pages → 4096 * (first + number) ≤ offset → offset < 4096 * (first + number) + 4096
    → all_sites (set pages number (insert_entry nat_cmp (page_at pages number) offset target)) ≡ insert_entry nat_cmp (all_sites pages) offset target
all_sites-set first number offset target [] within inside low high = absurd (omega arith)
all_sites-set first zero offset target (page ∷ pages) within inside low high =
    sym (insert_entry-append_left (4096 * (first + 1)) (4096 * (first + 1 + length pages) + 3) offset target page (all_sites pages) (LieInPages-all_sites (first + 1) pages within.1) (omega arith))
all_sites-set first (suc number) offset target (page ∷ pages) within inside low high =
    ap (λ rest. page ++ rest) (all_sites-set (first + 1) number offset target pages within.1 (omega arith) (omega arith) (omega arith))
    ∙ sym (insert_entry-append_right (4096 * first) (4096 * first + 4099) offset target page (all_sites pages) within.0 (omega arith))

-- a page that changed still has its own sites alone
pub LieInPages-set : {T : Type 0} (first number : ℕ) (page : List (ℕ × T)) (pages : List (List (ℕ × T)))
    → LieInPages first pages → LieWithin (4096 * (first + number)) (4096 * (first + number) + 4099) page → LieInPages first (set pages number page)
LieInPages-set first number page [] within new = tt
LieInPages-set first zero page (old ∷ pages) within new =
    (LieWithin-weaker (4096 * (first + 0)) (4096 * (first + 0) + 4099) (4096 * first) (4096 * first + 4099) page (omega arith) (omega arith) new, within.1)
LieInPages-set first (suc number) page (old ∷ pages) within new = (
  within.0,
  LieInPages-set (first + 1) number page pages within.1
      (LieWithin-weaker (4096 * (first + suc number)) (4096 * (first + suc number) + 4099) (4096 * (first + 1 + number)) (4096 * (first + 1 + number) + 4099) page (omega arith) (omega arith) new),
)

-- pages without sites change nothing
all_sites-replicate : {T : Type 0} (more : ℕ) → all_sites {T = T} (replicate more []) ≡ []
all_sites-replicate zero = refl
all_sites-replicate (suc more) = all_sites-replicate more

pub all_sites-extended : {T : Type 0} (more : ℕ) (pages : List (List (ℕ × T))) → all_sites (pages ++ replicate more []) ≡ all_sites pages
all_sites-extended more [] = all_sites-replicate more
all_sites-extended more (page ∷ pages) = ap (λ rest. page ++ rest) (all_sites-extended more pages)

LieInPages-replicate : (T : Type 0) (first more : ℕ) → LieInPages {T = T} first (replicate more [])
LieInPages-replicate T first zero = tt
LieInPages-replicate T first (suc more) = (tt, LieInPages-replicate T (first + 1) more)

pub LieInPages-extended : {T : Type 0} (first more : ℕ) (pages : List (List (ℕ × T))) → LieInPages first pages → LieInPages first (pages ++ replicate more [])
LieInPages-extended {T} first more [] within = LieInPages-replicate T first more
LieInPages-extended first more (page ∷ pages) within = (within.0, LieInPages-extended (first + 1) more pages within.1)

pub AppendsEmptyPages-all_sites : {T : Type 0} (old new : List (List (ℕ × T))) → AppendsEmptyPages old new → all_sites new ≡ all_sites old
AppendsEmptyPages-all_sites old new extends = rw extends.1 (all_sites-extended extends.0 old)

-- and no page's sites
page_at-replicate : {T : Type 0} (more number : ℕ) → page_at {T = T} (replicate more []) number ≡ []
page_at-replicate zero number = refl
page_at-replicate (suc more) zero = refl
page_at-replicate (suc more) (suc number) = page_at-replicate more number

page_at-extended : {T : Type 0} (more number : ℕ) (pages : List (List (ℕ × T))) → page_at (pages ++ replicate more []) number ≡ page_at pages number
page_at-extended more number [] = page_at-replicate more number
page_at-extended more zero (page ∷ pages) = refl
page_at-extended more (suc number) (page ∷ pages) = page_at-extended more number pages

pub AppendsEmptyPages-page_at : {T : Type 0} (number : ℕ) (old new : List (List (ℕ × T))) → AppendsEmptyPages old new → page_at new number ≡ page_at old number
AppendsEmptyPages-page_at number old new extends = rw extends.1 (page_at-extended extends.0 number old)

pub AppendsEmptyPages-LieInPages : {T : Type 0} (old new : List (List (ℕ × T))) → AppendsEmptyPages old new → LieInPages 0 old → LieInPages 0 new
AppendsEmptyPages-LieInPages old new extends within = rw extends.1 (LieInPages-extended 0 extends.0 old within)

-- and one more changes nothing
pub AppendsEmptyPages-push : {T : Type 0} (old new newer : List (List (ℕ × T))) → AppendsEmptyPages old new → newer ≡ new ++ [] ∷ [] → AppendsEmptyPages old newer
AppendsEmptyPages-push old new newer extends pushed =
    (extends.0 + 1, pushed ∙ ap (λ pages. pages ++ [] ∷ []) extends.1 ∙ append_assoc old (replicate extends.0 []) ([] ∷ []) ∙ ap (λ more. old ++ more) (replicate_more extends.0 []))

-- a site that is put into its page, or none
pub added-pages : {T : Type 0} (ok : Bool) (offset number : ℕ) (target : T) (page new : List (ℕ × T)) (pages : List (List (ℕ × T)))
    → LieInPages 0 pages → number ≡ offset / 4096 → number < length pages → page ≡ get_or pages number page
    → new ≡ (if ok then insert_entry nat_cmp page offset target else page)
    → LieInPages 0 (set pages number new) × (all_sites (set pages number new) ≡ (if ok then insert_entry nat_cmp (all_sites pages) offset target else all_sites pages))
added-pages true offset number target page new pages within is_number inside read new_is =
    let page_is : page ≡ page_at pages number = get_or_read pages number page inside read [] in
    let low : 4096 * (0 + number) ≤ offset = omega arith in
    let high : offset < 4096 * (0 + number) + 4096 = omega arith in
    let put_in : new ≡ insert_entry nat_cmp (page_at pages number) offset target = new_is ∙ ap (λ sites. insert_entry nat_cmp sites offset target) page_is in
    let lies = LieWithin-insert_entry (4096 * (0 + number)) (4096 * (0 + number) + 4099) offset target (page_at pages number) (LieInPages-page_at 0 number pages within) low (omega arith) in
    let in_pages = LieInPages-set 0 number (insert_entry nat_cmp (page_at pages number) offset target) pages within lies in
    (rw put_in in_pages, rw put_in (all_sites-set 0 number offset target pages within inside low high))
added-pages false offset number target page new pages within is_number inside read new_is =
    let page_is : new ≡ page_at pages number = new_is ∙ get_or_read pages number page inside read [] in
    let kept : set pages number new ≡ pages = ap (λ sites. set pages number sites) page_is ∙ set-get_or pages number [] in
    (rw kept within, rw kept refl)

-- the same where pages without sites were appended before
pub added-extended : {T : Type 0} (ok : Bool) (offset number : ℕ) (target : T) (page new : List (ℕ × T)) (old pages : List (List (ℕ × T)))
    → LieInPages 0 old → AppendsEmptyPages old pages → number ≡ offset / 4096 → number < length pages → page ≡ get_or pages number page
    → new ≡ (if ok then insert_entry nat_cmp page offset target else page)
    → LieInPages 0 (set pages number new) × (all_sites (set pages number new) ≡ (if ok then insert_entry nat_cmp (all_sites old) offset target else all_sites old))
added-extended ok offset number target page new old pages within extends is_number inside read new_is =
    rw (AppendsEmptyPages-all_sites old pages extends)
    at (added-pages ok offset number target page new pages (AppendsEmptyPages-LieInPages old pages extends within) is_number inside read new_is)
