-- The current hunk of a reader, as a taker of events holds it.
use Rattle.std.specs.Prelude.{◌≡◌, ℕ, ◌-◌, Bool, true, false, List, [], ◌++◌, length, replicate, if◌then◌else◌}
use Rattle.std.specs.BTreeMap.{insert_entry}
use Rattle.std.specs.Ordering.{nat_cmp}
use Rattle.byteorder.specs.Endian.{big_bytes}
use Rattle.hunk_words.specs.EventValue.{Receiver}
use Rattle.hunk_words.specs.EventValue.Receiver.{to_content}
use Rattle.hunk_words.specs.SiteContext.{SiteContext, SameSites}
use Rattle.hunk_base.specs.Sites.{SiteMap}

-- the bytes of its content so far, its sites, and whether the next word is content
pub record HunkSoFar (T : Type 0) : Type 0 where
  pub content : List ℕ
  pub sites : SiteMap T
  pub in_content : Bool

-- no content and no sites, with this limit
abbrev pub initial_hunk : {T : Type 0} → ℕ → HunkSoFar T
initial_hunk limit = record { content = []; sites = record { limit = limit; entries = [] }; in_content = false }

-- the same, when its content begins
abbrev pub begun_hunk : {T : Type 0} → ℕ → HunkSoFar T
begun_hunk limit = record { content = []; sites = record { limit = limit; entries = [] }; in_content = true }

-- The bytes of words are kept if they are content.
abbrev pub hunk_with_bytes : {T : Type 0} → HunkSoFar T → List ℕ → HunkSoFar T
hunk_with_bytes hunk bytes = record hunk { content = if hunk.in_content then hunk.content ++ bytes else hunk.content }

abbrev pub hunk_with_word : {T : Type 0} → HunkSoFar T → ℕ → HunkSoFar T
hunk_with_word hunk word = hunk_with_bytes hunk (big_bytes 4 word)

abbrev pub hunk_with_site : {T : Type 0} → HunkSoFar T → ℕ → T → HunkSoFar T
hunk_with_site hunk offset target = record hunk { sites = record hunk.sites { entries = insert_entry nat_cmp hunk.sites.entries offset target } }

-- as it is in memory: zeros after the content, up to the limit
abbrev pub filled_hunk : {T : Type 0} → HunkSoFar T → HunkSoFar T
filled_hunk hunk = record hunk { content = hunk.content ++ replicate (hunk.sites.limit - length hunk.content) 0 }

-- ---- what a hunk holds of the events

-- It has this limit, and sites at the offsets seen and at no others.
pub record HoldsSites {T : Type 0} (limit : ℕ) (seen : List ℕ) (hunk : HunkSoFar T) : Type 0 where
  pub same_limit : hunk.sites.limit ≡ limit
  pub same_sites : SameSites seen hunk.sites.entries

-- It holds the limit and the sites of the context.
abbrev pub HoldsContext : {T : Type 0} → SiteContext → HunkSoFar T → Type 0
HoldsContext context hunk = HoldsSites context.position.limit context.seen hunk

-- whether a word that goes here is content
abbrev pub goes_to_content : Receiver → Bool
goes_to_content to_content = true
goes_to_content _ = false
