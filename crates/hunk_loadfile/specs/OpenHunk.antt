-- What the current hunk shows of the events.
use Rattle.std.specs.Prelude.{◌≡◌, ℕ, Bool, List, [], ◌∷◌, ◌++◌, map, if◌then◌else◌, Result, OnOk, OnErr}
use Rattle.hunk_words.specs.Values.{Hunk, with_tables, one_site}
use Rattle.hunk_words.specs.Values.Adds.{to_hunk}
use Rattle.hunk_words.specs.PartialHunk.{HoldsSites}
use Rattle.hunk_words.specs.Taker.{JudgesSite}
use Rattle.hunk_base.specs.declared.sites.SiteRefusal.{SiteRefusal}
use Rattle.hunk_base.specs.Name.{bytes_of, name_of}
use Rattle.hunk_loadfile.specs.LoadFile.{with_sites}
use Rattle.hunk_loadfile.specs.declared.open_hunk.OpenHunk.{OpenHunk}

-- Its sites lie below the limit, at the offsets seen. Its name and the sizes in its block and in
-- the header are not kept.
pub record Shows {A : Type 0} (hunk : OpenHunk A) (limit : ℕ) (seen : List ℕ) (in_content : Bool) (told : Hunk) : Type 0 where
  pub kind : hunk.kind ≡ told.kind
  pub content : hunk.partial.content ≡ bytes_of told.content
  pub sites : hunk.partial.sites.entries ≡ with_sites [] told.tables.sites
  pub holds : HoldsSites limit seen hunk.partial
  pub words : hunk.partial.in_content ≡ in_content
  pub symbols : hunk.debug_info.symbols ≡ map (λ s. (name_of s.0, s.1)) told.tables.symbols
  pub debugs : hunk.debug_info.debugs ≡ told.tables.debugs

-- It takes a part of the hunk, or is left as it was.
pub record Takes {A E : Type 0} (old new : OpenHunk A) (answer : Result (Unit {0}) E) (more : Bool → Hunk → Hunk) : Type 0 where
  pub takes : (limit : ℕ) (seen : List ℕ) (in_content : Bool) (told : Hunk) → Shows old limit seen in_content told → OnOk answer (Shows new limit seen in_content (more in_content told))
  pub refuses : (limit : ℕ) (seen : List ℕ) (in_content : Bool) (told : Hunk) → Shows old limit seen in_content told → OnErr answer (Shows new limit seen in_content told)

-- It takes a site, or is left as it was; and it judges the site.
pub record TakesSite {A : Type 0} (old new : OpenHunk A) (answer : Result (Unit {0}) SiteRefusal) (offset target : ℕ) : Type 0 where
  pub takes : (limit : ℕ) (seen : List ℕ) (in_content : Bool) (told : Hunk) → Shows old limit seen in_content told
      → OnOk answer (Shows new limit (offset ∷ seen) in_content (with_tables told (one_site offset (to_hunk target))))
  pub refuses : (limit : ℕ) (seen : List ℕ) (in_content : Bool) (told : Hunk) → Shows old limit seen in_content told → OnErr answer (Shows new limit seen in_content told)
  pub judges : (limit : ℕ) (seen : List ℕ) (in_content : Bool) (told : Hunk) → Shows old limit seen in_content told → JudgesSite limit seen offset answer

-- the hunk with one more word, if it is content
abbrev pub told_with_word : ℕ → Bool → Hunk → Hunk
told_with_word word in_content told = record told { content = if in_content then told.content ++ word ∷ [] else told.content }
