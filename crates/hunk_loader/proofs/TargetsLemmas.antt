-- The sites of the current hunk, and one more.
use Rattle.std.proofs.Common.{◌≡◌, ℕ, suc, ◌<◌, ◌≤◌, Option, Some, None, List, [], ◌∷◌, Result, Ok, Err, OnOk, OnErr, sym, subst, ap, ◌∙◌, arith}
use Rattle.std.specs.BTreeMap.{insert_entry}
use Rattle.std.specs.List.{All}
use Rattle.std.specs.Ordering.{nat_cmp, match_ordering}
use Rattle.std.specs.declared.cmp.Ordering.{Ordering}
use Rattle.std.specs.declared.cmp.Ordering.TheVariants.{Less, Equal, Greater}
use Rattle.std.proofs.lemmas.List.Elements.{All-cons}
use Rattle.hunk_words.specs.PartialHunk.{HunkSoFar, begun_hunk, hunk_with_site}
use Rattle.hunk_base.specs.Sites.{SiteMap}
use Rattle.hunk_base.specs.declared.sites.SiteRefusal.{SiteRefusal}
use Rattle.hunk_loader.specs.ImageBuilder.{NamesHunks, passed}

-- What holds of each entry, and of one more, holds of each entry of the map with it.
pub All-insert : (P : ℕ × ℕ → Type 0) (es : List (ℕ × ℕ)) (o t : ℕ) → ((k : ℕ) → P (k, t)) → All P es → All P (insert_entry nat_cmp es o t)
All-insert P [] o t p h = All-cons P (o, t) [] (p o) h
All-insert P (e ∷ es) o t p h =
    let rest : All P es = λ k d within. h (suc k) d (omega (arith, within)) in
    go (nat_cmp o e.0) rest (All-insert P es o t p rest)
  where
    go : (c : Ordering) → All P es → All P (insert_entry nat_cmp es o t) → All P (match_ordering c ((o, t) ∷ e ∷ es) ((e.0, t) ∷ es) (e ∷ insert_entry nat_cmp es o t))
    go Less rest more = All-cons P (o, t) (e ∷ es) (p o) h
    go Equal rest more = All-cons P (e.0, t) es (p e.0) rest
    go Greater rest more = All-cons P e (insert_entry nat_cmp es o t) (h 0 e (omega arith)) more

pub All-site : (count : ℕ) (old new : HunkSoFar ℕ) (o t : ℕ) (answer : Result (Unit {0}) SiteRefusal) → t < count → OnOk answer (new ≡ hunk_with_site old o t) → OnErr answer (new ≡ old)
    → All (λ site. site.1 < count) old.sites.entries → All (λ site. site.1 < count) new.sites.entries
All-site count old new o t (Ok d) below adds refused all = subst (λ (h : HunkSoFar ℕ). All (λ site. site.1 < count) h.sites.entries) (sym adds) (All-insert (λ site. site.1 < count) old.sites.entries o t (λ k. below) all)
All-site count old new o t (Err e) below adds refused all = subst (λ (h : HunkSoFar ℕ). All (λ site. site.1 < count) h.sites.entries) (sym refused) all

-- They name hunks of a header with more hunks, too.
pub NamesHunks-more : (few more : ℕ) (o : Option (HunkSoFar ℕ)) → few ≤ more → NamesHunks few o → NamesHunks more o
NamesHunks-more few more None within names = tt
NamesHunks-more few more (Some hunk) within names = λ i site low. omega (arith, within, names i site low)

-- The current hunk with the same sites names hunks of the header, too.
pub NamesHunks-with : (count : ℕ) (current : Option (HunkSoFar ℕ)) (o n : HunkSoFar ℕ) → current ≡ Some o → n.sites ≡ o.sites → NamesHunks count current → NamesHunks count (Some n)
NamesHunks-with count current o n is same names = subst (λ (sites : SiteMap ℕ). All (λ site. site.1 < count) sites.entries) (sym same) (subst (NamesHunks count) is names)

-- It took something that is no site, or is left as it was.
pub NamesHunks-taken : {E : Type 0} (count : ℕ) (current : Option (HunkSoFar ℕ)) (o n m : HunkSoFar ℕ) (answer : Result (Unit {0}) E) → current ≡ Some o → m.sites ≡ o.sites → OnOk answer (n ≡ m) → OnErr answer (n ≡ o)
    → NamesHunks count current → NamesHunks count (Some n)
NamesHunks-taken count current o n m (Ok d) is same adds refused names = NamesHunks-with count current o n is (ap (λ (hunk : HunkSoFar ℕ). hunk.sites) adds ∙ same) names
NamesHunks-taken count current o n m (Err e) is same adds refused names = NamesHunks-with count current o n is (ap (λ (hunk : HunkSoFar ℕ). hunk.sites) refused) names

pub NamesHunks-passed : (count : ℕ) (current : Option (HunkSoFar ℕ)) → NamesHunks count current → NamesHunks count (passed current)
NamesHunks-passed count None names = tt
NamesHunks-passed count (Some hunk) names = names

-- A hunk that begins has no sites.
pub NamesHunks-begun : (count limit : ℕ) (o : HunkSoFar ℕ) → o ≡ begun_hunk limit → NamesHunks count (Some o)
NamesHunks-begun count limit o is = subst (λ (hunk : HunkSoFar ℕ). All (λ site. site.1 < count) hunk.sites.entries) (sym is) (λ k site within. absurd (omega (arith, within)))
