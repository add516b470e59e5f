-- The current hunk of a unit, after one more site.
use Rattle.std.proofs.Common.{◌≡◌, ℕ, List, [], ◌∷◌, ◌++◌, Result, Ok, Err, OnOk, OnErr, sym, subst}
use Rattle.std.specs.List.{All}
use Rattle.std.specs.declared.alloc.AllocError.{AllocError}
use Rattle.std.proofs.lemmas.List.Elements.{All-push}
use Rattle.std.specs.Map.{values_of}
use Rattle.std.specs.Ordering.{nat_cmp}
use Rattle.std.proofs.lemmas.Map.Views.{All-values-insert_entry}
use Rattle.hunk_words.specs.DebugInfo.{DebugLists}
use Rattle.hunk_words.specs.PartialHunk.{HunkSoFar, hunk_with_site}
use Rattle.hunk_base.specs.declared.sites.SiteRefusal.{SiteRefusal}
use Rattle.hunk_objects.specs.UnitHunk.{IsAmong}
use Rattle.hunk_objects.specs.declared.unit_hunk.Adds.{Adds}

-- each of its sites adds a hunk, or one of this many references
abbrev pub HasSites : (count : ℕ) → HunkSoFar Adds → Type 0
HasSites count hunk = All (IsAmong count) (values_of hunk.sites.entries)

pub HasSites-site : (count : ℕ) (old new : HunkSoFar Adds) (o : ℕ) (t : Adds) (answer : Result (Unit {0}) SiteRefusal) → IsAmong count t → OnOk answer (new ≡ hunk_with_site old o t) → OnErr answer (new ≡ old)
    → HasSites count old → HasSites count new
HasSites-site count old new o t (Ok d) among adds refused has =
    subst (HasSites count) (sym adds) (All-values-insert_entry nat_cmp o t (IsAmong count) old.sites.entries has among)
HasSites-site count old new o t (Err e) among adds refused has = subst (HasSites count) (sym refused) has

-- ---- the symbols of the current hunk, of each of which something holds

module _ (Holds : List ℕ × ℕ → Type 0) where
  pub Symbols-more : (old new : DebugLists) (symbol : List ℕ × ℕ) (answer : Result (Unit {0}) AllocError)
      → OnOk answer (new ≡ record old { symbols = old.symbols ++ (symbol ∷ []) }) → OnErr answer (new ≡ old) → Holds symbol → All Holds old.symbols → All Holds new.symbols
  Symbols-more old new symbol (Ok d) adds refused holds all = subst (λ (lists : DebugLists). All Holds lists.symbols) (sym adds) (All-push Holds old.symbols symbol all holds)
  Symbols-more old new symbol (Err e) adds refused holds all = subst (λ (lists : DebugLists). All Holds lists.symbols) (sym refused) all

  pub Symbols-same : (old new : DebugLists) (debugs : List (List ℕ)) (answer : Result (Unit {0}) AllocError)
      → OnOk answer (new ≡ record old { debugs = debugs }) → OnErr answer (new ≡ old) → All Holds old.symbols → All Holds new.symbols
  Symbols-same old new debugs (Ok d) adds refused all = subst (λ (lists : DebugLists). All Holds lists.symbols) (sym adds) all
  Symbols-same old new debugs (Err e) adds refused all = subst (λ (lists : DebugLists). All Holds lists.symbols) (sym refused) all
