-- The events of the fields of a file.
use Rattle.std.specs.Prelude.{ℕ, zero, suc, List, [], ◌∷◌, Option, Some, None}
use Rattle.hunk_words.specs.Kinds.{Kind, Field, low, bits, entry_type, hunk_kind_number, type_of}
use Rattle.hunk_words.specs.Kinds.Kind.{block_type, unit_length, name_length, word, value, content_size, offset, debug_length, ext_entry, ref_count, ref_offset, symbol_entry, table_size, header_size, short_offset}
use Rattle.hunk_words.specs.declared.kinds.BlockType.{BlockType}
use Rattle.hunk_words.specs.declared.kinds.BlockType.TheVariants.{End as end}
use Rattle.hunk_words.specs.declared.event.Event.{Event}
use Rattle.hunk_words.specs.declared.event.Event.TheVariants.{Unit as UnitBegins, Table, HunkSize, HunkName, Content, Word, Site, Entry, Count, RefSite, Symbol, Value, Debug, HunkEnd}

abbrev pub at_end : BlockType → Option Event
at_end end = Some HunkEnd
at_end _ = None

abbrev pub event_at : Kind → ℕ → Option Event
event_at unit_length n = Some UnitBegins
event_at table_size n = Some (Table n)
event_at (header_size last room left before) n = Some (HunkSize (bits n) (low n))
event_at name_length n = Some HunkName
event_at (content_size w c b) n = Some (Content (hunk_kind_number c) b (low n))
event_at word n = Some (Word n)
event_at value n = Some (Value n)
event_at (offset limit target) n = Some (Site n target)
event_at (short_offset h limit target) n = Some (Site n target)
event_at debug_length n = Some (Debug n)
event_at (ext_entry limit) zero = None
event_at (ext_entry limit) (suc n) = Some (Entry (entry_type (suc n)))
event_at (ref_count limit) n = Some (Count n)
event_at (ref_offset limit) n = Some (RefSite n)
event_at symbol_entry zero = None
event_at symbol_entry (suc n) = Some Symbol
event_at (block_type w limit) n = at_end (type_of (low n))
event_at _ n = None

-- the event of a field, if it has one
abbrev pub event_of : Field → Option Event
event_of f = event_at f.kind f.number

abbrev pub with_event : Option Event → List Event → List Event
with_event None es = es
with_event (Some e) es = e ∷ es

-- the events of fields, in order
abbrev pub events : List Field → List Event
events [] = []
events (f ∷ fs) = with_event (event_of f) (events fs)

-- the events of words
abbrev pub word_events : List ℕ → List Event
word_events [] = []
word_events (w ∷ ws) = Word w ∷ word_events ws
