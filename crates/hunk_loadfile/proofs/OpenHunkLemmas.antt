-- What the current hunk shows, after one more event.
use Rattle.std.proofs.Common.{◌≡◌, ℕ, List, [], ◌∷◌, ◌++◌, map, Bool, true, false, Result, Ok, Err, OnOk, OnErr, if◌then◌else◌, refl, sym, ap, subst, ◌∙◌, append-nil}
use Rattle.std.specs.BTreeMap.{insert_entry}
use Rattle.std.specs.Ordering.{nat_cmp}
use Rattle.byteorder.specs.Endian.{big_bytes}
use Rattle.hunk_base.specs.Name.{bytes_of, name_of}
use Rattle.hunk_words.specs.PartialHunk.{HunkSoFar, HoldsSites, begun_hunk, hunk_with_site, hunk_with_word}
use Rattle.hunk_words.specs.Values.{Hunk, Adds, with_tables, one_site}
use Rattle.hunk_words.specs.Values.Adds.{to_hunk}
use Rattle.hunk_words.specs.declared.kinds.HunkKind.{HunkKind}
use Rattle.hunk_base.specs.declared.sites.SiteRefusal.{SiteRefusal}
use Rattle.hunk_words.proofs.PartialHunkLemmas.{AddsSite, HoldsSites-begun, bytes_of-append, hunk_with_word-kept, hunk_with_word-dropped}
use Rattle.hunk_loadfile.specs.LoadFile.{with_site, with_sites}
use Rattle.hunk_loadfile.specs.OpenHunk.{Shows, Takes, TakesSite, told_with_word}
use Rattle.hunk_loadfile.specs.declared.open_hunk.OpenHunk.{OpenHunk}

-- ---- sites

pub with_sites-append : (es : List (ℕ × ℕ)) (ss : List (ℕ × Adds)) (o t : ℕ) → with_sites es (ss ++ ((o, to_hunk t) ∷ [])) ≡ insert_entry nat_cmp (with_sites es ss) o t
with_sites-append es [] o t = refl
with_sites-append es (s ∷ ss) o t = with_sites-append (with_site es s.0 s.1) ss o t

Shows-site : {A : Type 0} (h : OpenHunk A) (partial : HunkSoFar ℕ) (o t limit : ℕ) (seen : List ℕ) (in_content : Bool) (told : Hunk) → partial ≡ hunk_with_site h.partial o t
    → HoldsSites limit (o ∷ seen) partial → Shows h limit seen in_content told → Shows (record h { partial = partial }) limit (o ∷ seen) in_content (with_tables told (one_site o (to_hunk t)))
Shows-site h partial o t limit seen in_content told adds holds shows = record {
  kind = shows.kind;
  content = ap (λ p. p.content) adds ∙ shows.content;
  sites = ap (λ p. p.sites.entries) adds ∙ ap (λ es. insert_entry nat_cmp es o t) shows.sites ∙ sym (with_sites-append [] told.tables.sites o t);
  holds = holds;
  words = ap (λ p. p.in_content) adds ∙ shows.words;
  symbols = shows.symbols ∙ sym (ap (λ xs. map (λ s. (name_of s.0, s.1)) xs) (append-nil told.tables.symbols));
  debugs = shows.debugs ∙ sym (append-nil told.tables.debugs);
}

-- A hunk returns what its sites return.
pub takes-site : {A : Type 0} (h : OpenHunk A) (partial : HunkSoFar ℕ) (answer : Result (Unit {0}) SiteRefusal) (o t : ℕ) → AddsSite h.partial partial answer o t → TakesSite h (record h { partial = partial }) answer o t
takes-site h partial answer o t added = record {
  takes = λ limit seen in_content told shows. taken answer added.adds limit seen in_content told (added.holds limit seen shows.holds) shows;
  refuses = λ limit seen in_content told shows. kept answer added.refused limit seen in_content told shows;
  judges = λ limit seen in_content told shows. added.judges limit seen shows.holds;
}
  where
    taken : (r : Result (Unit {0}) SiteRefusal) → OnOk r (partial ≡ hunk_with_site h.partial o t) → (limit : ℕ) (seen : List ℕ) (in_content : Bool) (told : Hunk) → OnOk r (HoldsSites limit (o ∷ seen) partial)
        → Shows h limit seen in_content told → OnOk r (Shows (record h { partial = partial }) limit (o ∷ seen) in_content (with_tables told (one_site o (to_hunk t))))
    taken (Ok d) adds limit seen in_content told holds shows = Shows-site h partial o t limit seen in_content told adds holds shows
    taken (Err e) adds limit seen in_content told holds shows = tt

    kept : (r : Result (Unit {0}) SiteRefusal) → OnErr r (partial ≡ h.partial) → (limit : ℕ) (seen : List ℕ) (in_content : Bool) (told : Hunk) → Shows h limit seen in_content told → OnErr r (Shows (record h { partial = partial }) limit seen in_content told)
    kept (Ok d) same limit seen in_content told shows = tt
    kept (Err e) same limit seen in_content told shows = subst (λ p. Shows (record h { partial = p }) limit seen in_content told) (sym same) shows

-- ---- words of content

-- It keeps a word if it is content, or is left as it was.
pub takes-word : {A E : Type 0} (h : OpenHunk A) (partial : HunkSoFar ℕ) (answer : Result (Unit {0}) E) (w : ℕ) → OnOk answer (partial ≡ hunk_with_word h.partial w) → OnErr answer (partial ≡ h.partial)
    → Takes h (record h { partial = partial }) answer (told_with_word w)
takes-word h partial (Ok d) w adds refused = record { takes = λ limit seen in_content told shows. go in_content limit seen told shows; refuses = λ limit seen in_content told shows. tt }
  where
    content_is : (in_content : Bool) (ws : List ℕ) → h.partial.in_content ≡ in_content → h.partial.content ≡ bytes_of ws → partial.content ≡ bytes_of (if in_content then ws ++ (w ∷ []) else ws)
    content_is true ws words is = ap (λ p. p.content) (adds ∙ hunk_with_word-kept h.partial w words) ∙ ap (λ bytes. bytes ++ big_bytes 4 w) is ∙ sym (bytes_of-append ws w)
    content_is false ws words is = ap (λ p. p.content) (adds ∙ hunk_with_word-dropped h.partial w words) ∙ is

    go : (in_content : Bool) (limit : ℕ) (seen : List ℕ) (told : Hunk) → Shows h limit seen in_content told → Shows (record h { partial = partial }) limit seen in_content (told_with_word w in_content told)
    go in_content limit seen told shows = record {
      kind = shows.kind;
      content = content_is in_content told.content shows.words shows.content;
      sites = ap (λ p. p.sites.entries) adds ∙ shows.sites;
      holds = subst (HoldsSites limit seen) (sym adds) (record { same_limit = shows.holds.same_limit; same_sites = shows.holds.same_sites });
      words = ap (λ p. p.in_content) adds ∙ shows.words;
      symbols = shows.symbols;
      debugs = shows.debugs;
    }
takes-word h partial (Err e) w adds refused = record {
  takes = λ limit seen in_content told shows. tt;
  refuses = λ limit seen in_content told shows. subst (λ p. Shows (record h { partial = p }) limit seen in_content told) (sym refused) shows;
}

-- Content begins before the first site, and before the first word of content.
pub Shows-begun : {A : Type 0} (h : OpenHunk A) (partial : HunkSoFar ℕ) (kind : HunkKind) (limit before : ℕ) (seen : List ℕ) (in_content : Bool) (told : Hunk) (bits size : ℕ) → partial ≡ begun_hunk limit
    → h.partial.content ≡ [] → h.partial.sites.entries ≡ [] → Shows h before seen in_content told
    → Shows (record h { kind = kind; partial = partial }) limit seen true (record told { kind = kind; memory = bits; size = size })
Shows-begun h partial kind limit before seen in_content told bits size is no_content no_sites shows = record {
  kind = refl;
  content = ap (λ p. p.content) is ∙ sym no_content ∙ shows.content;
  sites = ap (λ p. p.sites.entries) is ∙ sym no_sites ∙ shows.sites;
  holds = HoldsSites-begun limit before seen h.partial partial is no_sites shows.holds;
  words = ap (λ p. p.in_content) is;
  symbols = shows.symbols;
  debugs = shows.debugs;
}
