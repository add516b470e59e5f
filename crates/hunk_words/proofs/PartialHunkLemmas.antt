-- What the current hunk holds of the events: before its content, when that begins, and after one more site or word.
use Rattle.std.proofs.Common.{◌≡◌, ◌⊎◌, ◌↔◌, inl, inr, ℕ, ◌+◌, ◌<◌, ◌≤◌, List, [], ◌∷◌, ◌++◌, Bool, true, false, Result, Ok, Err, OnOk, OnErr, if◌then◌else◌, refl, sym, ap, subst, ◌∙◌, append-nil, append_assoc, arith}
use Rattle.std.proofs.lemmas.Bool.{cases_lt}
use Rattle.std.proofs.lemmas.Grind.{flat_map-append}
use Rattle.std.specs.BTreeMap.{insert_entry}
use Rattle.std.specs.Ordering.{nat_cmp}
use Rattle.byteorder.specs.Endian.{big_bytes}
use Rattle.hunk_base.specs.Name.{bytes_of}
use Rattle.hunk_words.specs.EventValue.{Receiver}
use Rattle.hunk_words.specs.EventValue.Receiver.{nothing_more, to_unit_name, to_name, to_content, to_debug, to_symbol, to_entry}
use Rattle.hunk_words.specs.PartialHunk.{HunkSoFar, HoldsSites, initial_hunk, begun_hunk, hunk_with_bytes, hunk_with_word, hunk_with_site, goes_to_content}
use Rattle.hunk_words.specs.SiteContext.{SameSites}
use Rattle.hunk_base.specs.Sites.{SiteMap, AreApart, Meets}
use Rattle.hunk_words.specs.Taker.{JudgesSite}
use Rattle.hunk_base.specs.declared.sites.SiteRefusal.{SiteRefusal}
use Rattle.hunk_base.specs.declared.sites.SiteRefusal.TheVariants.{Outside, Overlap}
use Rattle.hunk_base.proofs.SitesLemmas.{StandFrom-insert_entry}
use Rattle.hunk_words.proofs.TakerLemmas.{SameSites-none, judges-site}

-- ---- before its sites

pub HoldsSites-initial : {T : Type 0} (limit : ℕ) → HoldsSites {T = T} limit [] (initial_hunk limit)
HoldsSites-initial limit = record { same_limit = refl; same_sites = SameSites-none }

-- Content begins before the first site.
pub HoldsSites-begun : {T : Type 0} (limit before : ℕ) (seen : List ℕ) (old new : HunkSoFar T) → new ≡ begun_hunk limit → old.sites.entries ≡ [] → HoldsSites before seen old
    → HoldsSites limit seen new
HoldsSites-begun {T = T} limit before seen old new is none holds = subst (HoldsSites limit seen) (sym is)
    (record { same_limit = refl; same_sites = subst (λ (entries : List (ℕ × T)). SameSites seen entries) none holds.same_sites })

-- ---- one more site

-- A map that judges a site exactly stays disjoint.
pub AreApart-site : {T : Type 0} (m n : SiteMap T) (o : ℕ) (t : T) (answer : Result (Unit {0}) SiteRefusal) → ((answer ≡ Err Outside) ↔ (m.limit < o + 4)) → ((answer ≡ Err Overlap) ↔ ((o + 4 ≤ m.limit) × Meets m.entries o))
    → OnOk answer (n ≡ record m { entries = insert_entry nat_cmp m.entries o t }) → OnErr answer (n ≡ m) → AreApart m → AreApart n
AreApart-site m n o t (Ok d) outside overlap adds refused apart =
    let inside : o + 4 ≤ m.limit = go (cases_lt m.limit (o + 4)) in
    subst AreApart (sym adds) (StandFrom-insert_entry 0 m.limit o t m.entries apart (omega arith) inside (λ meets. let wrong : Ok d ≡ Err Overlap = overlap.1 (inside, meets) in cc))
  where
    go : (m.limit < o + 4) ⊎ (o + 4 ≤ m.limit) → o + 4 ≤ m.limit
    go (inl past) = let wrong : Ok d ≡ Err Outside = outside.1 past in cc
    go (inr below) = below
AreApart-site m n o t (Err e) outside overlap adds refused apart = subst AreApart (sym refused) apart

pub HoldsSites-judges : {T : Type 0} (limit : ℕ) (seen : List ℕ) (hunk : HunkSoFar T) (o : ℕ) (answer : Result (Unit {0}) SiteRefusal)
    → ((answer ≡ Err Outside) ↔ (hunk.sites.limit < o + 4)) → ((answer ≡ Err Overlap) ↔ ((o + 4 ≤ hunk.sites.limit) × Meets hunk.sites.entries o))
    → HoldsSites limit seen hunk → JudgesSite limit seen o answer
HoldsSites-judges limit seen hunk o answer outside overlap holds =
    subst (λ l. JudgesSite l seen o answer) holds.same_limit (judges-site hunk.sites.limit seen hunk.sites.entries o answer holds.same_sites outside overlap)

-- what a hunk returns for a site
pub record AddsSite {T : Type 0} (old new : HunkSoFar T) (answer : Result (Unit {0}) SiteRefusal) (o : ℕ) (t : T) : Type 0 where
  pub adds : OnOk answer (new ≡ hunk_with_site old o t)
  pub holds : (limit : ℕ) (seen : List ℕ) → HoldsSites limit seen old → OnOk answer (HoldsSites limit (o ∷ seen) new)
  pub judges : (limit : ℕ) (seen : List ℕ) → HoldsSites limit seen old → JudgesSite limit seen o answer
  pub apart : AreApart old.sites → AreApart new.sites
  pub refused : OnErr answer (new ≡ old)

-- ---- a word

pub bytes_of-append : (ws : List ℕ) (n : ℕ) → bytes_of (ws ++ (n ∷ [])) ≡ bytes_of ws ++ big_bytes 4 n
bytes_of-append ws n = flat_map-append (λ w. big_bytes 4 w) ws (n ∷ []) ∙ ap (λ l. bytes_of ws ++ l) (append-nil (big_bytes 4 n))

-- the hunk keeps the words of content
pub hunk_with_word-kept : {T : Type 0} (hunk : HunkSoFar T) (n : ℕ) → hunk.in_content ≡ true → hunk_with_word hunk n ≡ record hunk { content = hunk.content ++ big_bytes 4 n }
hunk_with_word-kept hunk n is = ap (λ b. record hunk { content = if b then hunk.content ++ big_bytes 4 n else hunk.content }) is

pub hunk_with_word-dropped : {T : Type 0} (hunk : HunkSoFar T) (n : ℕ) → hunk.in_content ≡ false → hunk_with_word hunk n ≡ hunk
hunk_with_word-dropped hunk n is = ap (λ b. record hunk { content = if b then hunk.content ++ big_bytes 4 n else hunk.content }) is

-- ---- a run of words

-- no bytes change nothing
pub hunk_with_bytes-none : {T : Type 0} (hunk : HunkSoFar T) → hunk_with_bytes hunk [] ≡ hunk
hunk_with_bytes-none hunk = ap (λ content. record hunk { content = content }) (go hunk.in_content)
  where
    go : (kept : Bool) → (if kept then hunk.content ++ [] else hunk.content) ≡ hunk.content
    go true = append-nil hunk.content
    go false = refl

-- the bytes of a word, and more bytes
pub hunk_with_bytes-more : {T : Type 0} (hunk : HunkSoFar T) (n : ℕ) (bytes : List ℕ) → hunk_with_bytes (hunk_with_word hunk n) bytes ≡ hunk_with_bytes hunk (big_bytes 4 n ++ bytes)
hunk_with_bytes-more hunk n bytes = ap (λ content. record hunk { content = content }) (go hunk.in_content)
  where
    go : (kept : Bool) → (if kept then (if kept then hunk.content ++ big_bytes 4 n else hunk.content) ++ bytes else (if kept then hunk.content ++ big_bytes 4 n else hunk.content))
        ≡ (if kept then hunk.content ++ (big_bytes 4 n ++ bytes) else hunk.content)
    go true = append_assoc hunk.content (big_bytes 4 n) bytes
    go false = refl

pub receiver-content : (r : Receiver) → goes_to_content r ≡ true → r ≡ to_content
receiver-content nothing_more is = let wrong : false ≡ true = is in cc
receiver-content to_unit_name is = let wrong : false ≡ true = is in cc
receiver-content to_name is = let wrong : false ≡ true = is in cc
receiver-content to_content is = refl
receiver-content to_debug is = let wrong : false ≡ true = is in cc
receiver-content (to_symbol ws) is = let wrong : false ≡ true = is in cc
receiver-content (to_entry t ws) is = let wrong : false ≡ true = is in cc
