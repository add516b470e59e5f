-- What holds of the sites of one page in slots.
use Rattle.std.proofs.Common.{◌≡◌, ℕ, zero, suc, ◌+◌, ◌-◌, ◌*◌, ◌^◌, ◌/◌, ◌%◌, ◌<◌, ◌≤◌, inl, inr, Some, None, Option, Bool, MatchBool, leb, IsSome, true, false, List, [], ◌∷◌, length, get_or, set, take, drop, replicate, refl, sym, ap, ◌∙◌, arith, rules}
use Rattle.std.proofs.lemmas.List.{get_or_past, get_or_read, length-replicate, length-set, take_all}
use Rattle.std.proofs.lemmas.Bool.{cases_eq, cases_lt}
use Rattle.std.specs.declared.cmp.Ordering.{Ordering}
use Rattle.std.specs.declared.cmp.Ordering.TheVariants.{Less, Equal, Greater}
use Rattle.std.specs.Cmp.{nat_cmp_is}
use Rattle.std.specs.Int.{abs_diff}
use Rattle.std.proofs.lemmas.Bool.Decides.{nat_tests}
use Rattle.std.specs.Ordering.{nat_cmp, match_ordering}
use Rattle.std.specs.BTreeMap.{insert_entry, is_at}
use Rattle.hunk_base.specs.Page.{AreSpaced, LieWithin, LieInPage}
use Rattle.hunk_base.specs.Sites.{Meets, target_at}
use Rattle.hunk_base.specs.Slots.{AreInSlots, IsTable, SharesWithMark, SharesWithMarks, SharesWithSlot, present, site_in, slot_of, slots_from}
use Rattle.hunk_base.proofs.SitesLemmas.{Meets-more, is_at-apart, target_at-first}
use Rattle.hunk_base.proofs.PageLemmas.{AreSpaced-added, insert_entry-append_left}

-- there is no site in slots that begin after that of the offset
target_at-slots_after : {T : Type 0} (number offset : ℕ) (slots : List (Option (ℕ × T))) → AreInSlots number slots → slot_of offset < number → target_at (present slots) offset ≡ None
target_at-slots_after number offset [] placed after = refl
target_at-slots_after number offset (None ∷ slots) placed after = target_at-slots_after (number + 1) offset slots placed (omega arith)
target_at-slots_after number offset (Some site ∷ slots) placed after =
    rw (is_at-apart offset site.0 (λ same. let slot : slot_of offset ≡ slot_of site.0 = ap slot_of same in omega (arith, placed.0)))
    (target_at-slots_after (number + 1) offset slots placed.1 (omega arith))

-- a look-up looks at one slot
pub target_at-slots : {T : Type 0} (number offset k : ℕ) (slots : List (Option (ℕ × T)))
    → AreInSlots number slots → slot_of offset ≡ number + k → target_at (present slots) offset ≡ target_at (present (get_or slots k None ∷ [])) offset
target_at-slots number offset k [] placed here = refl
target_at-slots number offset zero (None ∷ slots) placed here = target_at-slots_after (number + 1) offset slots placed (omega arith)
target_at-slots number offset zero (Some site ∷ slots) placed here =
    let rest = target_at-slots_after (number + 1) offset slots placed.1 (omega arith) in
    rw rest refl
target_at-slots number offset (suc k) (None ∷ slots) placed here = target_at-slots (number + 1) offset k slots placed (omega arith)
target_at-slots number offset (suc k) (Some site ∷ slots) placed here =
    rw (is_at-apart offset site.0 (λ same. let slot : slot_of offset ≡ slot_of site.0 = ap slot_of same in omega (arith, placed.0)))
    (target_at-slots (number + 1) offset k slots placed.1 (omega arith))

-- the site of a slot is in it
pub AreInSlots-get_or : {T : Type 0} (number k : ℕ) (site : ℕ × T) (slots : List (Option (ℕ × T)))
    → AreInSlots number slots → get_or slots k None ≡ Some site → slot_of site.0 ≡ number + k
AreInSlots-get_or number k site [] placed read = cc
AreInSlots-get_or number zero site (None ∷ slots) placed read = cc
AreInSlots-get_or number zero site (Some first ∷ slots) placed read =
    let same : first ≡ site = cc in
    let here : slot_of first.0 ≡ number + 0 = omega (arith, placed.0) in
    rw same at here
AreInSlots-get_or number (suc k) site (None ∷ slots) placed read = omega (arith, AreInSlots-get_or (number + 1) k site slots placed read)
AreInSlots-get_or number (suc k) site (Some first ∷ slots) placed read = omega (arith, AreInSlots-get_or (number + 1) k site slots placed.1 read)

-- the sites in slots after that of an offset of their page begin after it
LieWithin-slots_after : {T : Type 0} (number page offset : ℕ) (slots : List (Option (ℕ × T)))
    → AreInSlots number slots → LieInPage page (present slots) → page ≡ offset / 4096 → slot_of offset < number
    → LieWithin (offset + 1) (4096 * page + 4099) (present slots)
LieWithin-slots_after number page offset [] placed within here after = tt
LieWithin-slots_after number page offset (None ∷ slots) placed within here after = LieWithin-slots_after (number + 1) page offset slots placed within here (omega arith)
LieWithin-slots_after number page offset (Some site ∷ slots) placed within here after =
    (omega (arith, placed.0, within.0, within.1), within.1, LieWithin-slots_after (number + 1) page offset slots placed.1 within.2 here (omega arith))

-- a site that is put into its slot is put in
pub present-set : {T : Type 0} (number page offset k : ℕ) (target : T) (slots : List (Option (ℕ × T)))
    → AreInSlots number slots → LieInPage page (present slots) → page ≡ offset / 4096 → slot_of offset ≡ number + k → k < length slots
    → (Meets (present slots) offset → ⊥)
    → present (set slots k (Some (offset, target))) ≡ insert_entry nat_cmp (present slots) offset target
present-set number page offset k target [] placed within here slot inside free = absurd (omega arith)
present-set number page offset zero target (None ∷ slots) placed within here slot inside free =
    sym (insert_entry-append_left (offset + 1) (4096 * page + 4099) offset target [] (present slots)
    (LieWithin-slots_after (number + 1) page offset slots placed within here (omega arith)) (omega arith))
present-set number page offset zero target (Some site ∷ slots) placed within here slot inside free = absurd (free (site.0, target_at-first site (present slots), (omega (arith, placed.0, within.0, within.1), omega (arith, placed.0, within.0, within.1))))
present-set number page offset (suc k) target (None ∷ slots) placed within here slot inside free =
    present-set (number + 1) page offset k target slots placed within here (omega arith) (omega arith) free
present-set number page offset (suc k) target (Some site ∷ slots) placed within here slot inside free =
    let greater : nat_cmp offset site.0 ≡ Greater = sym (nat_cmp_is offset site.0 Greater (omega (arith, placed.0, within.0, within.1))) in
    rw greater (ap (λ rest. site ∷ rest) (present-set (number + 1) page offset k target slots placed.1 within.2 here (omega arith) (omega arith) (λ meets. free (Meets-more site (present slots) offset meets))))

-- and each site is still in its slot
pub AreInSlots-set : {T : Type 0} (number offset k : ℕ) (target : T) (slots : List (Option (ℕ × T)))
    → AreInSlots number slots → slot_of offset ≡ number + k → AreInSlots number (set slots k (Some (offset, target)))
AreInSlots-set number offset k target [] placed slot = tt
AreInSlots-set number offset zero target (None ∷ slots) placed slot = (omega arith, placed)
AreInSlots-set number offset zero target (Some site ∷ slots) placed slot = (omega arith, placed.1)
AreInSlots-set number offset (suc k) target (None ∷ slots) placed slot = AreInSlots-set (number + 1) offset k target slots placed (omega arith)
AreInSlots-set number offset (suc k) target (Some site ∷ slots) placed slot = (placed.0, AreInSlots-set (number + 1) offset k target slots placed.1 (omega arith))

-- empty slots have no sites
pub present-replicate : {X : Type 0} (count : ℕ) → present {X = X} (replicate count None) ≡ []
present-replicate zero = refl
present-replicate (suc count) = present-replicate count

pub AreInSlots-replicate : (T : Type 0) (number count : ℕ) → AreInSlots {T = T} number (replicate count None)
AreInSlots-replicate T number zero = tt
AreInSlots-replicate T number (suc count) = AreInSlots-replicate T (number + 1) count

-- a site that shares a byte with that of a slot meets it
pub Meets-slot : {T : Type 0} (number offset : ℕ) (slots : List (Option (ℕ × T))) → AreInSlots 0 slots → SharesWithSlot slots number offset → Meets (present slots) offset
Meets-slot number offset slots placed shares =
    let site = shares.0 in
    let looked = target_at-slots 0 site.0 number slots placed (AreInSlots-get_or 0 number site slots placed shares.1) in
    let found : target_at (present slots) site.0 ≡ target_at (site ∷ []) site.0 = looked ∙ ap (λ slot. target_at (present (slot ∷ [])) site.0) shares.1 in
    (site.0, rw found (target_at-first site []), shares.2)

-- what is found in a slot is its site
found_in_slot : {T : Type 0} (other : ℕ) (slot : Option (ℕ × T)) → IsSome (target_at (present (slot ∷ [])) other) → (site : ℕ × T) × (slot ≡ Some site) × (site.0 ≡ other)
found_in_slot other None found = absurd cc
found_in_slot other (Some site) found = elim (cases_eq other site.0) [
  | inl same ↦ (site, refl, sym same)
  | inr apart ↦ let none : is_at (nat_cmp other) site.0 ≡ false = is_at-apart other site.0 apart in absurd (let wrong = rw none at found in cc)
]

-- a table that a site was put into
pub put-table : {T : Type 0} (number page offset : ℕ) (target : T) (slots : List (Option (ℕ × T)))
    → AreSpaced (present slots) × AreInSlots 0 slots × (length slots ≡ 1024) → LieInPage page (present slots) → page ≡ offset / 4096 → offset < 2 ^ 32
    → (Meets (present slots) offset → ⊥) → number ≡ slot_of offset
    → (present (set slots number (Some (offset, target))) ≡ insert_entry nat_cmp (present slots) offset target)
    × (AreSpaced (present (set slots number (Some (offset, target)))) × AreInSlots 0 (set slots number (Some (offset, target))) × (length (set slots number (Some (offset, target))) ≡ 1024))
put-table number page offset target slots table within here small free slot =
    let put_in = present-set 0 page offset number target slots table.1 within here (omega arith) (omega (arith, table.2)) free in (
      put_in,
      (
        AreSpaced-added true offset target (present slots) (present (set slots number (Some (offset, target)))) table.0 small free put_in,
        AreInSlots-set 0 offset number target slots table.1 (omega arith),
        length-set slots number (Some (offset, target)) ∙ table.2,
      ),
    )

pub target_at-one : {T : Type 0} (offset start : ℕ) (target : T) → start ≡ offset → target_at ((start, target) ∷ []) offset ≡ Some target
target_at-one offset start target same =
    let equal : nat_cmp offset start ≡ Equal = sym (nat_cmp_is offset start Equal (sym same)) in
    rw equal refl

pub target_at-other : {T : Type 0} (offset start : ℕ) (target : T) → (start ≡ offset → ⊥) → target_at ((start, target) ∷ []) offset ≡ None
target_at-other offset start target apart = rw (is_at-apart offset start (λ same. apart (sym same))) refl

-- ---- slots by their marks and targets

-- a mark from 4 on is that of a slot without a site
no_site : {T : Type 0} (start mark : ℕ) (target : T) → 4 ≤ mark → site_in start mark target ≡ None
no_site start mark target none = let test : leb 4 mark ≡ true = search (rules, nat_tests) in rw test refl

its_site : {T : Type 0} (start mark : ℕ) (target : T) → mark < 4 → site_in start mark target ≡ Some (start + mark, target)
its_site start mark target some = let test : leb 4 mark ≡ false = search (rules, nat_tests) in rw test refl

site_in-some : {T : Type 0} (start mark : ℕ) (target : T) (site : ℕ × T) → site_in start mark target ≡ Some site → (mark < 4) × (start + mark ≡ site.0)
site_in-some {T} start mark target site is = elim (cases_lt mark 4) [
  | inl some ↦ let found : Some (start + mark, target) ≡ Some site = sym (its_site start mark target some) ∙ is in let same : (start + mark, target) ≡ site = cc in (some, ap (λ (s : ℕ × T). s.0) same)
  | inr none ↦ absurd (let wrong : None ≡ Some site = sym (no_site start mark target none) ∙ is in cc)
]

length-slots_from : {T : Type 0} (start : ℕ) (marks : List ℕ) (targets : List T) → length marks ≡ length targets → length (slots_from start marks targets) ≡ length marks
length-slots_from start [] targets same = refl
length-slots_from start (mark ∷ marks) [] same = absurd (omega arith)
length-slots_from start (mark ∷ marks) (target ∷ targets) same = ap suc (length-slots_from (start + 4) marks targets (omega arith))

get_or-slots_from : {T : Type 0} (start k d : ℕ) (e : T) (marks : List ℕ) (targets : List T) → length marks ≡ length targets → k < length marks
    → get_or (slots_from start marks targets) k None ≡ site_in (start + 4 * k) (get_or marks k d) (get_or targets k e)
get_or-slots_from start k d e [] targets same inside = absurd (omega arith)
get_or-slots_from start k d e (mark ∷ marks) [] same inside = absurd (omega arith)
get_or-slots_from start zero d e (mark ∷ marks) (target ∷ targets) same inside = let here : start ≡ start + 4 * 0 = omega arith in ap (λ at. site_in at mark target) here
get_or-slots_from start (suc k) d e (mark ∷ marks) (target ∷ targets) same inside =
    let here : start + 4 + 4 * k ≡ start + 4 * (suc k) = omega arith in
    get_or-slots_from (start + 4) k d e marks targets (omega arith) (omega arith) ∙ ap (λ at. site_in at (get_or marks k d) (get_or targets k e)) here

set-slots_from : {T : Type 0} (start k mark : ℕ) (target : T) (marks : List ℕ) (targets : List T) → length marks ≡ length targets → k < length marks
    → slots_from start (set marks k mark) (set targets k target) ≡ set (slots_from start marks targets) k (site_in (start + 4 * k) mark target)
set-slots_from start k mark target [] targets same inside = absurd (omega arith)
set-slots_from start k mark target (m ∷ marks) [] same inside = absurd (omega arith)
set-slots_from start zero mark target (m ∷ marks) (t ∷ targets) same inside =
    let here : start ≡ start + 4 * 0 = omega arith in ap (λ at. site_in at mark target ∷ slots_from (start + 4) marks targets) here
set-slots_from start (suc k) mark target (m ∷ marks) (t ∷ targets) same inside =
    let here : start + 4 + 4 * k ≡ start + 4 * (suc k) = omega arith in
    ap (λ rest. site_in start m t ∷ rest)
    (set-slots_from (start + 4) k mark target marks targets (omega arith) (omega arith) ∙ ap (λ at. set (slots_from (start + 4) marks targets) k (site_in at mark target)) here)

-- each site is in its slot
AreInSlots-slots_from : {T : Type 0} (first number start : ℕ) (marks : List ℕ) (targets : List T) → first % 4096 ≡ 0 → start ≡ first + 4 * number → number + length marks ≤ 1024
    → AreInSlots number (slots_from start marks targets)
AreInSlots-slots_from first number start [] targets page here few = tt
AreInSlots-slots_from first number start (mark ∷ marks) [] page here few = tt
AreInSlots-slots_from first number start (mark ∷ marks) (target ∷ targets) page here few =
    let rest = AreInSlots-slots_from first (number + 1) (start + 4) marks targets page (omega arith) (omega arith) in
    elim (cases_lt mark 4) [
      | inl some ↦ rw (its_site start mark target some) (omega arith, rest)
      | inr none ↦ rw (no_site start mark target none) rest
    ]

-- and lies in the bytes of the slots, or ends three bytes after them
LieWithin-slots_from : {T : Type 0} (from to start : ℕ) (marks : List ℕ) (targets : List T) → from ≤ start → start + 4 * length marks + 3 ≤ to → LieWithin from to (present (slots_from start marks targets))
LieWithin-slots_from from to start [] targets after before = tt
LieWithin-slots_from from to start (mark ∷ marks) [] after before = tt
LieWithin-slots_from from to start (mark ∷ marks) (target ∷ targets) after before =
    let rest = LieWithin-slots_from from to (start + 4) marks targets (omega arith) (omega arith) in
    elim (cases_lt mark 4) [
      | inl some ↦ rw (its_site start mark target some) (omega arith, omega arith, rest)
      | inr none ↦ rw (no_site start mark target none) rest
    ]

-- slots without sites
slots_from-none : {T : Type 0} (count start : ℕ) (targets : List T) → length targets ≡ count → slots_from start (replicate count 4) targets ≡ replicate count None
slots_from-none zero start targets all = refl
slots_from-none (suc count) start [] all = absurd (omega arith)
slots_from-none (suc count) start (target ∷ targets) all = ap (λ rest. None ∷ rest) (slots_from-none count (start + 4) targets (omega arith))

-- the slot of a mark that tells of a site
slot_at-mark : {T : Type 0} (start k : ℕ) (marks : List ℕ) (targets : List T) → length marks ≡ length targets → get_or marks k 4 < 4
    → (target : T) × (get_or (slots_from start marks targets) k None ≡ Some (start + 4 * k + get_or marks k 4, target))
slot_at-mark start k [] targets same some = absurd (omega arith)
slot_at-mark start k (mark ∷ marks) [] same some = absurd (omega arith)
slot_at-mark start zero (mark ∷ marks) (target ∷ targets) same some =
    let here : start + mark ≡ start + 4 * 0 + mark = omega arith in (target, its_site start mark target some ∙ ap (λ at. Some (at, target)) here)
slot_at-mark start (suc k) (mark ∷ marks) (target ∷ targets) same some =
    let found = slot_at-mark (start + 4) k marks targets (omega arith) some in
    let here : start + 4 + 4 * k + get_or marks k 4 ≡ start + 4 * (suc k) + get_or marks k 4 = omega arith in
    (found.0, found.1 ∙ ap (λ at. Some (at, found.0)) here)

-- ---- a table

-- the sites of a table that has one say which page it is of
page_of : {T : Type 0} (first page : ℕ) (sites : List (ℕ × T)) → first % 4096 ≡ 0 → 0 < length sites → LieWithin first (first + 4099) sites → LieInPage page sites → first ≡ 4096 * page
page_of first page [] begins some within here = absurd (omega arith)
page_of first page (site ∷ sites) begins some within here = omega (arith, within.0, within.1, here.0, here.1)

by_order-some : {X : Type 0} (order : Ordering) (less equal greater : List X) → 0 < length less → 0 < length equal → 0 < length greater → 0 < length (match_ordering order less equal greater)
by_order-some Less less equal greater one two three = one
by_order-some Equal less equal greater one two three = two
by_order-some Greater less equal greater one two three = three

insert_entry-some : {T : Type 0} (offset : ℕ) (target : T) (sites : List (ℕ × T)) → 0 < length (insert_entry nat_cmp sites offset target)
insert_entry-some offset target [] = omega arith
insert_entry-some offset target (site ∷ sites) =
    by_order-some (nat_cmp offset site.0) ((offset, target) ∷ site ∷ sites) ((site.0, target) ∷ sites) (site ∷ insert_entry nat_cmp sites offset target) (omega arith) (omega arith) (omega arith)

-- a table that a site of its page was put into, which may have had none
put_in : {T : Type 0} (first page offset : ℕ) (target : T) (marks : List ℕ) (targets : List T)
    → first ≡ 4096 * page → page ≡ offset / 4096 → offset < 2 ^ 32 → length marks ≡ 1024 → length targets ≡ 1024
    → AreSpaced (present (slots_from first marks targets)) → LieInPage page (present (slots_from first marks targets)) → (Meets (present (slots_from first marks targets)) offset → ⊥)
    → (present (slots_from first (set marks (slot_of offset) (offset % 4)) (set targets (slot_of offset) target)) ≡ insert_entry nat_cmp (present (slots_from first marks targets)) offset target)
    × IsTable first (set marks (slot_of offset) (offset % 4)) (set targets (slot_of offset) target)
put_in first page offset target marks targets begins here small marked targeted spaced within free =
    let slots = slots_from first marks targets in
    let marks_new = set marks (slot_of offset) (offset % 4) in
    let targets_new = set targets (slot_of offset) target in
    let all : length slots ≡ 1024 = length-slots_from first marks targets (omega arith) ∙ marked in
    let placed : AreInSlots 0 slots = AreInSlots-slots_from first 0 first marks targets (omega arith) (omega arith) (omega arith) in
    let whole : first + 4 * slot_of offset + offset % 4 ≡ offset = omega arith in
    let put : site_in (first + 4 * slot_of offset) (offset % 4) target ≡ Some (offset, target) = its_site (first + 4 * slot_of offset) (offset % 4) target (omega arith) ∙ ap (λ at. Some (at, target)) whole in
    let slots_new : slots_from first marks_new targets_new ≡ set slots (slot_of offset) (Some (offset, target)) =
    set-slots_from first (slot_of offset) (offset % 4) target marks targets (omega arith) (omega arith) ∙ ap (λ slot. set slots (slot_of offset) slot) put in
    let done = put-table (slot_of offset) page offset target slots (spaced, placed, all) within here small free refl in
    let is : present (slots_from first marks_new targets_new) ≡ insert_entry nat_cmp (present slots) offset target = ap present slots_new ∙ done.0 in (
      is,
      record {
        page = omega arith;
        marked = length-set marks (slot_of offset) (offset % 4) ∙ marked;
        targeted = length-set targets (slot_of offset) target ∙ targeted;
        spaced = rw slots_new done.1.0;
        some = rw is (insert_entry-some offset target (present slots));
      },
    )

-- one that had some
pub put-table_marked : {T : Type 0} (first page number offset : ℕ) (target : T) (marks : List ℕ) (targets : List T)
    → IsTable first marks targets → LieInPage page (present (slots_from first marks targets)) → page ≡ offset / 4096 → offset < 2 ^ 32 → (Meets (present (slots_from first marks targets)) offset → ⊥) → number ≡ slot_of offset
    → (present (slots_from first (set marks number (offset % 4)) (set targets number target)) ≡ insert_entry nat_cmp (present (slots_from first marks targets)) offset target)
    × IsTable first (set marks number (offset % 4)) (set targets number target)
put-table_marked first page number offset target marks targets table within here small free slot =
    let lie = LieWithin-slots_from first (first + 4099) first marks targets (omega arith) (omega (arith, table.marked)) in
    rw slot
    (put_in first page offset target marks targets (page_of first page (present (slots_from first marks targets)) table.page table.some lie within) here small table.marked table.targeted table.spaced within free)

-- and one that had none
pub put-table_first : {T : Type 0} (first number offset : ℕ) (target : T) (marks : List ℕ) (targets : List T)
    → first ≡ offset - offset % 4096 → offset < 2 ^ 32 → marks ≡ replicate 1024 4 → length targets ≡ 1024 → number ≡ slot_of offset
    → (present (slots_from first (set marks number (offset % 4)) (set targets number target)) ≡ (offset, target) ∷ [])
    × IsTable first (set marks number (offset % 4)) (set targets number target)
put-table_first first number offset target marks targets begins small empty targeted slot =
    let none : present (slots_from first marks targets) ≡ [] = ap (λ ms. present (slots_from first ms targets)) empty ∙ ap present (slots_from-none 1024 first targets targeted) ∙ present-replicate 1024 in
    let marked : length marks ≡ 1024 = ap length empty ∙ length-replicate {A = ℕ} 1024 4 in
    let done = put_in first (offset / 4096) offset target marks targets (omega arith) refl small marked targeted (rw none tt) (rw none tt) (rw none (λ meets. absurd cc)) in
    rw slot (done.0 ∙ ap (λ sites. insert_entry nat_cmp sites offset target) none, done.1)

-- ---- what shares a byte with a site of a table

-- a site of a table that a site at the offset shares a byte with has its mark
pub Meets-marks : {T : Type 0} (first offset : ℕ) (marks : List ℕ) (targets : List T) → IsTable first marks targets → Meets (present (slots_from first marks targets)) offset → SharesWithMarks first marks offset
Meets-marks first offset marks targets table meets =
    let slots = slots_from first marks targets in
    let other : ℕ = meets.0 in
    let its : ℕ = slot_of other in
    let placed : AreInSlots 0 slots = AreInSlots-slots_from first 0 first marks targets table.page (omega arith) (omega (arith, table.marked)) in
    let looked : target_at (present slots) other ≡ target_at (present (get_or slots its None ∷ [])) other = target_at-slots 0 other its slots placed (omega arith) in
    let here : IsSome (target_at (present (get_or slots its None ∷ [])) other) = rw (← looked) meets.1 in
    let found = found_in_slot other (get_or slots its None) here in
    let read = get_or-slots_from first its 4 found.0.1 marks targets (omega (arith, table.marked, table.targeted)) (omega (arith, table.marked)) in
    let mark = site_in-some (first + 4 * its) (get_or marks its 4) (get_or targets its found.0.1) found.0 (sym read ∙ found.1) in
    let at : first + 4 * its + get_or marks its 4 ≡ other = mark.1 ∙ found.2 in
    (its, (mark.0, rw at meets.2))

pub marks-Meet : {T : Type 0} (first offset : ℕ) (marks : List ℕ) (targets : List T) → IsTable first marks targets → SharesWithMarks first marks offset → Meets (present (slots_from first marks targets)) offset
marks-Meet first offset marks targets table shares =
    let slots = slots_from first marks targets in
    let placed : AreInSlots 0 slots = AreInSlots-slots_from first 0 first marks targets table.page (omega arith) (omega (arith, table.marked)) in
    let found = slot_at-mark first shares.0 marks targets (omega (arith, table.marked, table.targeted)) shares.1.0 in
    Meets-slot shares.0 offset slots placed ((first + 4 * shares.0 + get_or marks shares.0 4, found.0), found.1, shares.1.1)

pub Meets-decides : {T : Type 0} (free : Bool) (first offset : ℕ) (marks : List ℕ) (targets : List T) → IsTable first marks targets
    → MatchBool free (SharesWithMarks first marks offset → ⊥) (SharesWithMarks first marks offset)
    → MatchBool free (Meets (present (slots_from first marks targets)) offset → ⊥) (Meets (present (slots_from first marks targets)) offset)
Meets-decides true first offset marks targets table free = λ meets. free (Meets-marks first offset marks targets table meets)
Meets-decides false first offset marks targets table shares = marks-Meet first offset marks targets table shares

-- the last of three slots says whether a site meets one, where it shares no byte with those of the first two
pub SharesWithMarks-last : (apart : Bool) (first before number after offset : ℕ) (marks : List ℕ) → first % 4096 ≡ 0 → length marks ≡ 1024
    → before ≡ (number + 1023) % 1024 → number ≡ slot_of offset → after ≡ (number + 1) % 1024
    → (SharesWithMark first marks before offset → ⊥) → (SharesWithMark first marks number offset → ⊥)
    → MatchBool apart (SharesWithMark first marks after offset → ⊥) (SharesWithMark first marks after offset)
    → MatchBool apart (SharesWithMarks first marks offset → ⊥) (SharesWithMarks first marks offset)
SharesWithMarks-last true first before number after offset marks page all is_before is_number is_after free_before free free_after = λ shares.
    let its : ℕ = shares.0 in
    elim (cases_lt its 1024) [
      | inr past ↦ absurd (let default = get_or_past marks its 4 (omega (arith, all)) in omega (arith, shares.1.0, default))
      | inl inside ↦ elim (cases_eq its before) [
        | inl same ↦ free_before (rw same at shares.1)
        | inr not_before ↦ elim (cases_eq its number) [
          | inl same ↦ free (rw same at shares.1)
          | inr not_same ↦ let same : its ≡ after = omega (arith, shares.1.0, shares.1.1.0, shares.1.1.1) in free_after (rw same at shares.1)
        ]
      ]
    ]
SharesWithMarks-last false first before number after offset marks page all is_before is_number is_after free_before free shares = (after, shares)

-- whether a site shares a byte with one that a mark tells of
pub SharesWithMark-decides : (apart : Bool) (first number offset mark start distance : ℕ) (marks : List ℕ) → number < length marks → mark ≡ get_or marks number mark → mark < 4
    → start ≡ first + 4 * number + mark → distance ≡ abs_diff offset start → apart ≡ leb 4 distance
    → MatchBool apart (SharesWithMark first marks number offset → ⊥) (SharesWithMark first marks number offset)
SharesWithMark-decides apart first number offset mark start distance marks inside read some at far is =
    let here : get_or marks number 4 ≡ mark = sym (get_or_read marks number mark inside read 4) in
    rw (is, here) (elim (cases_lt distance 4) [
      | inl near ↦ let test : leb 4 distance ≡ false = search (rules, nat_tests) in rw test (some, (omega arith, omega arith))
      | inr apart ↦ let test : leb 4 distance ≡ true = search (rules, nat_tests) in rw test (λ shares. omega (arith, shares.1.0, shares.1.1))
    ])

pub SharesWithMark-none : (first number offset mark : ℕ) (marks : List ℕ) → number < length marks → mark ≡ get_or marks number mark → 4 ≤ mark → SharesWithMark first marks number offset → ⊥
SharesWithMark-none first number offset mark marks inside read none shares =
    let here : get_or marks number 4 ≡ mark = sym (get_or_read marks number mark inside read 4) in
    omega (arith, shares.0, here)

-- ---- what is in the slot of an offset

-- what a mark and a target were read of is what is looked at
looked : {T : Type 0} (first number offset mark : ℕ) (target : T) (marks : List ℕ) (targets : List T) → IsTable first marks targets → number ≡ slot_of offset
    → mark ≡ get_or marks number mark → target ≡ get_or targets number target
    → target_at (present (slots_from first marks targets)) offset ≡ target_at (present (site_in (first + 4 * number) mark target ∷ [])) offset
looked first number offset mark target marks targets table is_number read reads =
    let slots = slots_from first marks targets in
    let placed : AreInSlots 0 slots = AreInSlots-slots_from first 0 first marks targets table.page (omega arith) (omega (arith, table.marked)) in
    target_at-slots 0 offset number slots placed (omega arith)
    ∙ ap (λ slot. target_at (present (slot ∷ [])) offset)
    (get_or-slots_from first number mark target marks targets (omega (arith, table.marked, table.targeted)) (omega (arith, table.marked))
    ∙ ap (λ m. site_in (first + 4 * number) m (get_or targets number target)) (sym read) ∙ ap (λ t. site_in (first + 4 * number) mark t) (sym reads))

pub target_at-marked : {T : Type 0} (first number offset mark : ℕ) (target : T) (marks : List ℕ) (targets : List T) → IsTable first marks targets → number ≡ slot_of offset
    → mark ≡ get_or marks number mark → target ≡ get_or targets number target → mark < 4 → first + 4 * number + mark ≡ offset
    → target_at (present (slots_from first marks targets)) offset ≡ Some target
target_at-marked first number offset mark target marks targets table is_number read reads some at =
    looked first number offset mark target marks targets table is_number read reads
    ∙ ap (λ slot. target_at (present (slot ∷ [])) offset) (its_site (first + 4 * number) mark target some)
    ∙ target_at-one offset (first + 4 * number + mark) target at

pub target_at-unmarked : {T : Type 0} (first number offset mark : ℕ) (target : T) (marks : List ℕ) (targets : List T) → IsTable first marks targets → number ≡ slot_of offset
    → mark ≡ get_or marks number mark → target ≡ get_or targets number target → (mark < 4 → first + 4 * number + mark ≡ offset → ⊥)
    → target_at (present (slots_from first marks targets)) offset ≡ None
target_at-unmarked first number offset mark target marks targets table is_number read reads apart =
    looked first number offset mark target marks targets table is_number read reads
    ∙ elim (cases_lt mark 4) [
      | inl some ↦ ap (λ slot. target_at (present (slot ∷ [])) offset) (its_site (first + 4 * number) mark target some) ∙ target_at-other offset (first + 4 * number + mark) target (apart some)
      | inr none ↦ ap (λ slot. target_at (present (slot ∷ [])) offset) (no_site (first + 4 * number) mark target none)
    ]

-- ---- a walk over slots

pub present-step : {T : Type 0} (start after mark its : ℕ) (target : T) (marks marks_new : List ℕ) (targets targets_new : List T) (sites : List (ℕ × T))
    → present (slots_from start marks targets) ≡ sites → marks ≡ mark ∷ marks_new → targets ≡ target ∷ targets_new → after ≡ start + 4 → its ≡ start + mark → mark < 4
    → sites ≡ (its, target) ∷ present (slots_from after marks_new targets_new)
present-step start after mark its target marks marks_new targets targets_new sites is marks_are targets_are goes at some =
    sym is ∙ rw (marks_are, targets_are, its_site start mark target some, goes, at) refl

pub present-skip : {T : Type 0} (start after mark : ℕ) (target : T) (marks marks_new : List ℕ) (targets targets_new : List T) (sites : List (ℕ × T))
    → present (slots_from start marks targets) ≡ sites → marks ≡ mark ∷ marks_new → targets ≡ target ∷ targets_new → after ≡ start + 4 → 4 ≤ mark
    → present (slots_from after marks_new targets_new) ≡ sites
present-skip start after mark target marks marks_new targets targets_new sites is marks_are targets_are goes none =
    let skipped : present (slots_from start marks targets) ≡ present (slots_from after marks_new targets_new) = rw (marks_are, targets_are, no_site start mark target none, goes) refl in
    sym skipped ∙ is

-- ---- the sites after the first one

pub read-after_first : {X : Type 0} (k : ℕ) (x : X) (xs : List X) → k < length (take (length xs - 1) (drop 1 xs)) → x ≡ get_or (take (length xs - 1) (drop 1 xs)) k x → (k + 1 < length xs) × (x ≡ get_or xs (k + 1) x)
read-after_first k x [] inside read = absurd (omega arith)
read-after_first k x (y ∷ ys) inside read =
    let all : take (length (y ∷ ys) - 1) ys ≡ ys = take_all (length (y ∷ ys) - 1) ys (omega arith) in
    let within : k < length ys = rw all at inside in
    let next : k + 1 ≡ suc k = omega arith in
    (omega arith, rw next (rw all at read))
