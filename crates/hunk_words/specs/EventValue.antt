-- What is built from events, in order.
use Rattle.std.specs.Prelude.{ℕ, zero, suc, pred, List, [], ◌∷◌, ◌++◌, length}
use Rattle.hunk_words.specs.Kinds.{hunk_kind_of}
use Rattle.hunk_words.specs.Values.{HunkTables, Hunk, Part, no_tables, empty, with_tables, one_site, one_reference, one_definition, one_symbol, one_debug}
use Rattle.hunk_words.specs.Values.Adds.{to_hunk, to_reference}
use Rattle.hunk_words.specs.Values.Definition.{offset_at, absolute_at}
use Rattle.hunk_words.specs.declared.event.Event.{Event}
use Rattle.hunk_words.specs.declared.event.Event.TheVariants.{Unit as UnitBegins, Table, HunkSize, HunkName, Content, Word, Site, Entry, Count, RefSite, Symbol, Value, Debug, HunkEnd}

-- where the next word goes
pub data Receiver : Type 0 where
  nothing_more : Receiver
  to_unit_name : Receiver
  to_name : Receiver
  to_content : Receiver
  to_debug : Receiver
  to_symbol : List ℕ → Receiver
  to_entry : ℕ → List ℕ → Receiver

-- the parts so far, the sizes in the header, and the current hunk
pub record EventValue : Type 0 where
  pub parts : List Part
  pub sizes : List (ℕ × ℕ)
  pub hunk : Hunk
  pub receiver : Receiver

-- the list with its last element changed
abbrev pub on_last : {A : Type 0} → (A → A) → List A → List A
on_last f [] = []
on_last f (x ∷ []) = f x ∷ []
on_last f (x ∷ y ∷ xs) = x ∷ on_last f (y ∷ xs)

abbrev pub word_to : Receiver → EventValue → ℕ → EventValue
word_to nothing_more built w = built
word_to to_unit_name built w = record built { parts = on_last (λ p. record p { name = p.name ++ (w ∷ []) }) built.parts }
word_to to_name built w = record built { hunk = record built.hunk { name = built.hunk.name ++ (w ∷ []) } }
word_to to_content built w = record built { hunk = record built.hunk { content = built.hunk.content ++ (w ∷ []) } }
word_to to_debug built w = record built { hunk = record built.hunk { tables = record built.hunk.tables { debugs = on_last (λ ws. ws ++ (w ∷ [])) built.hunk.tables.debugs } } }
word_to (to_symbol ws) built w = record built { receiver = to_symbol (ws ++ (w ∷ [])) }
word_to (to_entry t ws) built w = record built { receiver = to_entry t (ws ++ (w ∷ [])) }

abbrev pub value_to : Receiver → ℕ → HunkTables
value_to (to_symbol ws) v = one_symbol ws v
value_to (to_entry zero ws) v = no_tables
value_to (to_entry (suc zero) ws) v = one_definition ws (offset_at v)
value_to (to_entry (suc (suc n)) ws) v = one_definition ws (absolute_at v)
value_to _ v = no_tables

abbrev pub count_to : Receiver → ℕ → HunkTables
count_to (to_entry t ws) (suc n) = one_reference ws
count_to _ n = no_tables

-- what is built, after one more event
abbrev pub step : EventValue → Event → EventValue
step built UnitBegins = record built { parts = built.parts ++ (record { name = []; hunks = [] } ∷ []); receiver = to_unit_name }
step built (Table n) = built
step built (HunkSize bs n) = record built { sizes = built.sizes ++ ((bs, n) ∷ []) }
step built HunkName = record built { receiver = to_name }
step built (Content c bs n) = record built { hunk = record built.hunk { kind = hunk_kind_of c; memory = bs; size = n }; receiver = to_content }
step built (Word w) = word_to built.receiver built w
step built (Site o t) = record built { hunk = with_tables built.hunk (one_site o (to_hunk t)) }
step built (Entry t) = record built { receiver = to_entry t [] }
step built (Count n) = record built { hunk = with_tables built.hunk (count_to built.receiver n); receiver = nothing_more }
step built (RefSite o) = record built { hunk = with_tables built.hunk (one_site o (to_reference (pred (length built.hunk.tables.references)))) }
step built Symbol = record built { receiver = to_symbol [] }
step built (Value v) = record built { hunk = with_tables built.hunk (value_to built.receiver v); receiver = nothing_more }
step built (Debug n) = record built { hunk = with_tables built.hunk (one_debug []); receiver = to_debug }
step built HunkEnd = record built { parts = on_last (λ p. record p { hunks = p.hunks ++ (built.hunk ∷ []) }) built.parts; hunk = empty; receiver = nothing_more }

abbrev pub value_of_events : EventValue → List Event → EventValue
value_of_events built [] = built
value_of_events built (e ∷ es) = value_of_events (step built e) es

-- before an object file, and before a load file, whose hunks are those of one part
abbrev pub initial_object : EventValue
initial_object = record { parts = []; sizes = []; hunk = empty; receiver = nothing_more }

abbrev pub initial_load : EventValue
initial_load = record { parts = record { name = []; hunks = [] } ∷ []; sizes = []; hunk = empty; receiver = nothing_more }
