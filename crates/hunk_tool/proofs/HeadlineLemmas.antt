-- The load file that units make has in memory what the units define directly, and so the bytes that
-- are linked have the report of that memory, and no other.
use Rattle.std.proofs.Common.{◌≡◌, ℕ, zero, suc, ◌+◌, ◌*◌, List, [], ◌∷◌, ◌++◌, length, map, slice_index, get_or, Bool, inl, inr, Option, Some, None, refl, sym, ap, ap₂, subst, ◌∙◌, zero-add, add-zero}
use Rattle.std.specs.List.{All, zip}
use Rattle.std.proofs.Math.Nat.{add_comm}
use Rattle.std.proofs.Math.Path.{fun_ext}
use Rattle.std.proofs.lemmas.Bool.{cases_Bool}
use Rattle.std.proofs.lemmas.List.{append_cancel_left}
use Rattle.std.proofs.lemmas.List.Elements.{All-head, All-tail}
use Rattle.hunk_base.specs.Longwords.{longwords}
use Rattle.hunk_base.specs.Sites.{StandFrom}
use Rattle.hunk_objects.specs.ProgramUnit.{ObjectUnit}
use Rattle.hunk_objects.specs.UnitHunk.{IsUnitHunk, ObjectHunk}
use Rattle.hunk_objects.specs.declared.unit_hunk.Adds.{Adds}
use Rattle.hunk_objects.specs.declared.unit_hunk.Adds.TheVariants.{Hunk, Reference}
use Rattle.hunk_objects.specs.declared.unit_hunk.Definition.{Definition}
use Rattle.hunk_objects.specs.declared.unit_hunk.Definition.TheVariants.{At, Absolute}
use Rattle.hunk_objects.proofs.PartialLemmas.{one-object}
use Rattle.hunk_loadfile.specs.Laws.{second_addend}
use Rattle.hunk_loadfile.specs.LoadFile.{IsLoadOf}
use Rattle.hunk_loadfile.specs.Patching.{patched_bytes}
use Rattle.hunk_loadfile.proofs.PatchingTwiceLemmas.{patched_bytes-twice}
use Rattle.hunk_link.specs.Addend.{addend_of, defined_addend, definition_addend, name_addend, nothing, reference_addends}
use Rattle.hunk_link.specs.Carried.{carried, carried_ranked}
use Rattle.hunk_link.specs.Ranks.{IsUnit, RankedHunk, hunks_of}
use Rattle.hunk_link.specs.SymbolTable.{Table, look_up, table_of}
use Rattle.hunk_link.specs.declared.symbol_table.Defined.{Defined}
use Rattle.hunk_link.proofs.CarriedLawsLemmas.{sizes-carried}
use Rattle.hunk_link.proofs.RanksLemmas.{All-hunks_of}
use Rattle.hunk_loader.specs.Image.{memory_map}
use Rattle.hunk_loader.specs.Loading.{loaded, loaded_bytes}
use Rattle.hunk_loader.specs.Places.{Placed}
use Rattle.hunk_loader.specs.Sizes.{sizes_of}
use Rattle.hunk_loader.proofs.LoadingLemmas.{loaded-trimmed, sizes_of-trimmed}
use Rattle.hunk_tool.specs.Direct.{added, defined_value, definition_value, direct, direct_bytes, name_value}
use Rattle.hunk_tool.specs.Headline.{LinkedIsReported, LoadedIsDirect, MemoryIsDirect, ReportsAgree}
use Rattle.hunk_tool.specs.Image.{ranked_sizes}
use Rattle.hunk_tool.specs.Inputs.{AreObjects}
use Rattle.hunk_tool.specs.Link.{linked_bytes, linked_hunks}
use Rattle.hunk_tool.specs.LinkedUnits.{carried_with, linked_units, strips}
use Rattle.hunk_image_text.specs.ImageText.{image_text}
use Rattle.hunk_tool.specs.declared.link_options.LinkOptions.{LinkOptions}
use Rattle.hunk_tool.proofs.LawsLemmas.{one-value}
use Rattle.hunk_tool.proofs.LinkedUnitsLemmas.{IsUnit-linked, direct-linked, sizes-linked_units}

-- ---- what is added at a site

-- the number that the linker adds, and the base that the loader adds
abbrev whole : List ℕ → ℕ → Option ℕ → ℕ
whole bases known base = known + second_addend (slice_index bases) base

whole-definition : (bases : List ℕ) (rank : ℕ) (definition : Definition)
    → whole bases (definition_addend rank definition).known (definition_addend rank definition).base ≡ definition_value (slice_index bases rank) definition
whole-definition bases rank (At offset) = add_comm offset (slice_index bases rank)
whole-definition bases rank (Absolute number) = add-zero number

whole-defined : (bases : List ℕ) (defined : Option Defined) → whole bases (defined_addend defined).known (defined_addend defined).base ≡ defined_value bases defined
whole-defined bases None = refl
whole-defined bases (Some defined) = whole-definition bases defined.rank defined.definition

-- an index that is not one of a reference adds nothing
whole-reference : (bases : List ℕ) (table : Table) (names : List (List ℕ)) (index : ℕ)
    → whole bases (get_or (map (name_addend table) names) index nothing).known (get_or (map (name_addend table) names) index nothing).base
    ≡ slice_index (map (name_value bases table) names) index
whole-reference bases table [] index = refl
whole-reference bases table (name ∷ names) zero = whole-defined bases (look_up table name)
whole-reference bases table (name ∷ names) (suc index) = whole-reference bases table names index

whole-added : (bases : List ℕ) (table : Table) (ranked : RankedHunk) (adds : Adds)
    → whole bases (addend_of ranked.first (reference_addends table ranked.hunk) adds).known (addend_of ranked.first (reference_addends table ranked.hunk) adds).base
    ≡ added bases table ranked adds
whole-added bases table ranked (Hunk target) = zero-add (slice_index bases (ranked.first + target))
whole-added bases table ranked (Reference index) = whole-reference bases table ranked.hunk.references index

-- ---- the bytes of a hunk

abbrev IsTyped : RankedHunk → Type 0
IsTyped ranked = IsUnitHunk ranked.hunk

bytes-direct : (bases : List ℕ) (table : Table) (strip : Bool) (ranked : RankedHunk) → IsTyped ranked → loaded_bytes bases (carried_ranked table strip ranked) ≡ direct_bytes bases table ranked
bytes-direct bases table strip ranked typed =
    let hunk : ObjectHunk = ranked.hunk in
    let addend = addend_of ranked.first (reference_addends table hunk) in
    let apart : StandFrom 0 (length hunk.content) hunk.sites.entries = subst (λ limit. StandFrom 0 limit hunk.sites.entries) typed.limit typed.apart in
    patched_bytes-twice hunk.content hunk.sites.entries (λ adds. (addend adds).base) (λ adds. (addend adds).known) (slice_index bases) (4 * hunk.size) apart
    ∙ ap (patched_bytes (4 * hunk.size) hunk.content hunk.sites.entries) (fun_ext (whole-added bases table ranked))

-- ---- all hunks

-- Pairs with elements that are each made of one of a list give what pairs with those of that list
-- give, if each pair does.
map-zip : {A B C D : Type 0} (P : B → Type 0) (make : B → C) (f : A × C → D) (g : A × B → D) → ((a : A) (b : B) → P b → f (a, make b) ≡ g (a, b))
    → (firsts : List A) (seconds : List B) → All P seconds → map f (zip firsts (map make seconds)) ≡ map g (zip firsts seconds)
map-zip P make f g same [] seconds all = refl
map-zip P make f g same (a ∷ firsts) [] all = refl
map-zip P make f g same (a ∷ firsts) (b ∷ seconds) all =
    ap₂ (λ x xs. x ∷ xs) (same a b (All-head P b seconds all)) (map-zip P make f g same firsts seconds (All-tail P b seconds all))

loaded-carried : (units : List ObjectUnit) (strip : Bool) (bases : List ℕ) → All IsUnit units → loaded (carried units strip) bases ≡ direct units bases
loaded-carried units strip bases typed =
    let table : Table = table_of (hunks_of units) in
    map-zip IsTyped (carried_ranked table strip) (λ placed. (placed.0, loaded_bytes bases placed.1)) (λ placed. (placed.0, direct_bytes bases table placed.1))
    (λ base ranked is. ap (λ bytes. (base, bytes)) (bytes-direct bases table strip ranked is)) bases (hunks_of units) (All-hunks_of IsUnitHunk units typed)

pub loaded-with : (units : List ObjectUnit) (globals strip : Bool) (bases : List ℕ) → All IsUnit (linked_units globals strip units) → loaded (carried_with globals strip units) bases ≡ direct units bases
loaded-with units globals strip bases typed =
    loaded-carried (linked_units globals strip units) (strips globals strip) bases typed ∙ direct-linked globals strip units bases

pub loaded-is-direct : LoadedIsDirect
loaded-is-direct units globals strip bases typed = loaded-with units globals strip bases (IsUnit-linked globals strip units typed)

pub memory-is-direct : MemoryIsDirect
memory-is-direct units globals strip bases address typed = ap (λ hunks. memory_map hunks address) (loaded-is-direct units globals strip bases typed)

-- ---- the bytes that are linked

-- no files are those of two lists of units
one-units : (files : List (List ℕ)) (one other : List ObjectUnit) → AreObjects files one → AreObjects files other → one ≡ other
one-units [] one other first second = first ∙ sym second
one-units (bytes ∷ files) one other (some, rest, is, are, parts) (also, left, same, these, halves) =
    parts
    ∙ ap₂ (λ xs ys. xs ++ ys) (one-object some also (longwords bytes) is.is_object same.is_object) (one-units files rest left are these)
    ∙ sym halves

-- trimming changes neither the memory nor the sizes
loaded-linked : (units : List ObjectUnit) (globals : Bool) (options : LinkOptions) (bases : List ℕ) → loaded (linked_hunks units globals options) bases ≡ loaded (carried_with globals options.strip units) bases
loaded-linked units globals options bases = elim (cases_Bool options.trim) [
  | inl trim ↦ rw trim (loaded-trimmed bases bases (carried_with globals options.strip units))
  | inr whole ↦ rw whole refl
]

sizes-linked : (units : List ObjectUnit) (globals : Bool) (options : LinkOptions) → sizes_of (linked_hunks units globals options) ≡ sizes_of (carried_with globals options.strip units)
sizes-linked units globals options = elim (cases_Bool options.trim) [
  | inl trim ↦ rw trim (sizes_of-trimmed (carried_with globals options.strip units))
  | inr whole ↦ rw whole refl
]

pub linked-is-reported : LinkedIsReported
linked-is-reported globals options form files bases file linked image told link imaged =
    let units : List ObjectUnit = link.units in
    let same : imaged.units ≡ units = one-units files imaged.units units imaged.link.are link.link.are in
    let bytes : linked ≡ linked_bytes units globals options = append_cancel_left file linked (linked_bytes units globals options) link.written in
    let carried_sizes = sizes-carried (linked_units globals options.strip units) (strips globals options.strip) ∙ sizes-linked_units globals options.strip units in
    let sizes : ranked_sizes imaged.units ≡ sizes_of (linked_hunks units globals options) =
    ap ranked_sizes same ∙ sym (sizes-linked units globals options ∙ carried_sizes) in
    let memory : direct imaged.units bases ≡ loaded (linked_hunks units globals options) bases =
    ap (λ us. direct us bases) same ∙ sym (loaded-linked units globals options bases ∙ loaded-with units globals options.strip bases link.link.typed) in
    record {
      hunks = linked_hunks units globals options;
      is_file = subst (IsLoadOf (linked_hunks units globals options)) (sym bytes) link.is_load;
      placed = subst (λ counts. Placed counts bases) sizes imaged.placed;
      written = imaged.written ∙ ap (λ hunks. image ++ image_text form hunks) memory;
    }

pub reports-agree : ReportsAgree
reports-agree globals options form files bases file linked before told image other link reported imaged =
    let also = linked-is-reported globals options form files bases file linked image other link imaged in
    let same = one-value reported.hunks also.hunks linked reported.is_file also.is_file in
    append_cancel_left before told (image_text form (loaded reported.hunks bases)) reported.written
    ∙ ap (λ hunks. image_text form (loaded hunks bases)) same
    ∙ sym (append_cancel_left image other (image_text form (loaded also.hunks bases)) also.written)
