-- Laws about the events of a file.
use Rattle.std.specs.Prelude.{◌≡◌, ℕ, List, [], ◌∷◌, length, Some}
use Rattle.hunk_words.specs.Kinds.{Kind, Field}
use Rattle.hunk_words.specs.Kinds.Kind.{object_start, load_start}
use Rattle.hunk_words.specs.Trees.{ObjectTree, LoadTree}
use Rattle.hunk_words.specs.Spelling.{object_spelling, load_spelling, ObjectFits, LoadFits}
use Rattle.hunk_words.specs.FieldLongwords.{longwords_of}
use Rattle.hunk_words.specs.SiteRules.{limit_of, seen_all}
use Rattle.hunk_words.specs.Machine.{due, Takes}
use Rattle.hunk_words.specs.Event.{events}
use Rattle.hunk_words.specs.Values.{object_value, load_sizes, load_hunk_values}
use Rattle.hunk_words.specs.EventValue.{value_of_events, initial_object, initial_load}
use Rattle.hunk_words.specs.SiteContext.{context_after, initial_context}
use Rattle.hunk_words.specs.declared.event.FileKind.TheVariants.{Object, Load}

-- The value is what the events build.
abbrev pub ObjectTold : Type 0
ObjectTold = (t : ObjectTree) → ObjectFits t → (value_of_events initial_object (events (object_spelling t))).parts ≡ object_value t

abbrev pub LoadTold : Type 0
LoadTold = (t : LoadTree) → LoadFits t → ((value_of_events initial_load (events (load_spelling t))).sizes ≡ load_sizes t)
    × ((value_of_events initial_load (events (load_spelling t))).parts ≡ record { name = []; hunks = load_hunk_values (length t.others) (t.first ∷ t.others) } ∷ [])

-- No longwords are the files of two values.
abbrev pub ObjectOneValue : Type 0
ObjectOneValue = (t u : ObjectTree) → ObjectFits t → ObjectFits u → longwords_of (object_spelling t) ≡ longwords_of (object_spelling u) → object_value t ≡ object_value u

abbrev pub LoadOneValue : Type 0
LoadOneValue = (t u : LoadTree) → LoadFits t → LoadFits u → longwords_of (load_spelling t) ≡ longwords_of (load_spelling u)
    → (load_sizes t ≡ load_sizes u) × (load_hunk_values (length t.others) (t.first ∷ t.others) ≡ load_hunk_values (length u.others) (u.first ∷ u.others))

-- Where an offset is expected, its limit and the earlier sites are those of the events.
abbrev pub ObjectLimit : Type 0
ObjectLimit = (fs : List Field) (s : List Kind) (limit : ℕ) → Takes (object_start ∷ []) fs s → limit_of (due s) ≡ Some limit
    → (limit ≡ (context_after Object initial_context (events fs)).position.limit) × ((context_after Object initial_context (events fs)).seen ≡ seen_all [] fs)

abbrev pub LoadLimit : Type 0
LoadLimit = (fs : List Field) (s : List Kind) (limit : ℕ) → Takes (load_start ∷ []) fs s → limit_of (due s) ≡ Some limit
    → (limit ≡ (context_after Load initial_context (events fs)).position.limit) × ((context_after Load initial_context (events fs)).seen ≡ seen_all [] fs)
