-- Laws about trees, their spelling and the machine: it reads exactly what is spelled.
use Rattle.std.specs.Prelude.{◌≡◌, ℕ, List, [], ◌∷◌, ◌++◌}
use Rattle.hunk_words.specs.Kinds.{Kind, Field, width}
use Rattle.hunk_words.specs.FaultTable.{Passes}
use Rattle.hunk_words.specs.Kinds.Kind.{object_start, load_start, unit_type}
use Rattle.hunk_words.specs.Trees.{ObjectTree, LoadTree}
use Rattle.hunk_words.specs.Spelling.{object_spelling, load_spelling, ObjectFits, LoadFits}
use Rattle.hunk_words.specs.FieldLongwords.{longwords_of}
use Rattle.hunk_words.specs.Machine.{due, Takes, IsComplete}
use Rattle.hunk_words.specs.Reading.{WordPasses, Reads}

-- What is spelled is taken, each field under the kind of its spelling, up to where a file may end.
abbrev pub ObjectIsTaken : Type 0
ObjectIsTaken = (t : ObjectTree) → ObjectFits t → Takes (object_start ∷ []) (object_spelling t) (unit_type ∷ [])

abbrev pub LoadIsTaken : Type 0
LoadIsTaken = (t : LoadTree) → LoadFits t → Takes (load_start ∷ []) (load_spelling t) []

abbrev pub ObjectIsRead : Type 0
ObjectIsRead = (t : ObjectTree) → ObjectFits t → Reads (object_start ∷ []) (longwords_of (object_spelling t)) (unit_type ∷ [])

abbrev pub LoadIsRead : Type 0
LoadIsRead = (t : LoadTree) → LoadFits t → Reads (load_start ∷ []) (longwords_of (load_spelling t)) []

-- What is read up to where a file may end is the spelling of a tree.
abbrev pub ReadIsObject : Type 0
ReadIsObject = (ws : List ℕ) (after : List Kind) → Reads (object_start ∷ []) ws after → IsComplete after → (t : ObjectTree) × ObjectFits t × (longwords_of (object_spelling t) ≡ ws)

abbrev pub ReadIsLoad : Type 0
ReadIsLoad = (ws : List ℕ) (after : List Kind) → Reads (load_start ∷ []) ws after → IsComplete after → (t : LoadTree) × LoadFits t × (longwords_of (load_spelling t) ≡ ws)

-- What has been read so far is the beginning of a file.
abbrev pub ObjectPrefix : Type 0
ObjectPrefix = (ws : List ℕ) (stack : List Kind) → Reads (object_start ∷ []) ws stack → (more : List ℕ) × (t : ObjectTree) × ObjectFits t × (longwords_of (object_spelling t) ≡ ws ++ more)

abbrev pub LoadPrefix : Type 0
LoadPrefix = (ws : List ℕ) (stack : List Kind) → Reads (load_start ∷ []) ws stack → (more : List ℕ) × (t : LoadTree) × LoadFits t × (longwords_of (load_spelling t) ≡ ws ++ more)

-- If a longword doesn't pass, no file has it after that prefix.
abbrev pub ObjectNext : Type 0
ObjectNext = (ws more : List ℕ) (w : ℕ) (stack : List Kind) (t : ObjectTree) → Reads (object_start ∷ []) ws stack → ObjectFits t → longwords_of (object_spelling t) ≡ ws ++ (w ∷ more) → WordPasses (width (due stack)) stack w

abbrev pub LoadNext : Type 0
LoadNext = (ws more : List ℕ) (w : ℕ) (stack : List Kind) (t : LoadTree) → Reads (load_start ∷ []) ws stack → LoadFits t → longwords_of (load_spelling t) ≡ ws ++ (w ∷ more) → WordPasses (width (due stack)) stack w

-- The kind that is expected is the one that each file has there.
abbrev pub ObjectDue : Type 0
ObjectDue = (fs gs : List Field) (g : Field) (stack : List Kind) (t : ObjectTree) → Takes (object_start ∷ []) fs stack → ObjectFits t → object_spelling t ≡ fs ++ (g ∷ gs) → (g.kind ≡ due stack) × Passes (due stack) g.number

abbrev pub LoadDue : Type 0
LoadDue = (fs gs : List Field) (g : Field) (stack : List Kind) (t : LoadTree) → Takes (load_start ∷ []) fs stack → LoadFits t → load_spelling t ≡ fs ++ (g ∷ gs) → (g.kind ≡ due stack) × Passes (due stack) g.number

-- The same longwords have the same fields.
abbrev pub ObjectSame : Type 0
ObjectSame = (t u : ObjectTree) → ObjectFits t → ObjectFits u → longwords_of (object_spelling t) ≡ longwords_of (object_spelling u) → object_spelling t ≡ object_spelling u

abbrev pub LoadSame : Type 0
LoadSame = (t u : LoadTree) → LoadFits t → LoadFits u → longwords_of (load_spelling t) ≡ longwords_of (load_spelling u) → load_spelling t ≡ load_spelling u

-- Nothing passes after the last END.
abbrev pub NothingFollows : Type 0
NothingFollows = (w : ℕ) (ws : List ℕ) (after : List Kind) → Reads [] (w ∷ ws) after → ⊥
