-- The sites of the current hunk by the events are those of the fields.
use Rattle.std.proofs.Common.{◌≡◌, ℕ, zero, suc, List, [], ◌∷◌, Option, Some, None, refl, ap, ◌∙◌}
use Rattle.hunk_words.specs.Kinds.{Kind, Field, low, type_of}
use Rattle.hunk_words.specs.Kinds.Kind.{block_type, ext_entry, symbol_entry}
use Rattle.hunk_words.specs.SiteRules.{seen_at, seen_after, seen_all}
use Rattle.hunk_words.specs.Event.{at_end, event_at, event_of, with_event, events}
use Rattle.hunk_words.specs.SiteContext.{SiteContext, HunkPosition, position_after, seen_after_event, context_after}
use Rattle.hunk_words.specs.declared.event.FileKind.{FileKind}
use Rattle.hunk_words.specs.declared.event.Event.{Event}
use Rattle.hunk_words.specs.declared.kinds.BlockType.{BlockType}
use Rattle.hunk_words.specs.declared.kinds.BlockType.TheVariants.{End as end}

-- what a field changes, if it has an event
abbrev pub position_with : FileKind → HunkPosition → Option Event → HunkPosition
position_with file v None = v
position_with file v (Some e) = position_after file v e

abbrev pub seen_with : List ℕ → Option Event → List ℕ
seen_with seen None = seen
seen_with seen (Some e) = seen_after_event seen e

abbrev pub context_with_event : FileKind → SiteContext → Option Event → SiteContext
context_with_event file v o = record { position = position_with file v.position o; seen = seen_with v.seen o }

pub context_after-with : (file : FileKind) (v : SiteContext) (o : Option Event) (es : List Event) → context_after file v (with_event o es) ≡ context_after file (context_with_event file v o) es
context_after-with file v None es = refl
context_after-with file v (Some e) es = refl

seen_with-block : (y : BlockType) (seen : List ℕ) → seen_with seen (at_end y) ≡ seen_at y seen
seen_with-block end seen = refl
seen_with-block _ seen = refl

seen_with-event : (k : Kind) (n : ℕ) (seen : List ℕ) → seen_with seen (event_at k n) ≡ seen_after k n seen
seen_with-event (block_type w limit) n seen = seen_with-block (type_of (low n)) seen
seen_with-event (ext_entry limit) zero seen = refl
seen_with-event (ext_entry limit) (suc n) seen = refl
seen_with-event symbol_entry zero seen = refl
seen_with-event symbol_entry (suc n) seen = refl
seen_with-event _ n seen = refl

pub context_after-seen : (file : FileKind) (v : SiteContext) (fs : List Field) → (context_after file v (events fs)).seen ≡ seen_all v.seen fs
context_after-seen file v [] = refl
context_after-seen file v (f ∷ fs) =
    ap (λ x. x.seen) (context_after-with file v (event_of f) (events fs))
    ∙ context_after-seen file (context_with_event file v (event_of f)) fs
    ∙ ap (λ x. seen_all x fs) (seen_with-event f.kind f.number v.seen)
