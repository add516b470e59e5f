-- Symbols that are looked up, and definitions that become symbols.
use Rattle.std.proofs.Common.{◌≡◌, ◌∙◌, ◌||◌, ◌&&◌, ◌≤◌, ◌<◌, ◌+◌, ℕ, Bool, true, false, not, List, [], ◌∷◌, ◌++◌, Option, Some, None, Bor, if◌then◌else◌, length, map, take, get_or, nat_eq, add-one, append-nil, append_assoc, arith, refl, sym, ap, ap₂, subst}
use Rattle.std.specs.Cmp.Lexicographic.{pointwise, same_text}
use Rattle.std.specs.List.{All, filter, filter_map, list_any}
use Rattle.std.proofs.lemmas.Bool.{and_parts, eqb-true}
use Rattle.std.proofs.lemmas.List.{length-append, map_push, take_more}
use Rattle.std.proofs.lemmas.List.Elements.{All-append, All-cons, All-filter, All-head, All-nil, All-tail, filter-append, filter_map-append}
use Rattle.std.proofs.lemmas.List.Folds.{list_any-append}
use Rattle.indexmap.specs.IndexSet.{insert_key}
use Rattle.hunk_base.specs.Name.{most_name}
use Rattle.hunk_objects.specs.Globals.{Symbol, global_symbols, hunk_with_globals, is_among, is_symbol, others, symbol_of, unit_with_globals}
use Rattle.hunk_objects.specs.ProgramUnit.{ObjectUnit}
use Rattle.hunk_objects.specs.UnitHunk.{IsUnitHunk, ObjectHunk}
use Rattle.hunk_objects.specs.declared.unit_hunk.Definition.{Definition}
use Rattle.hunk_objects.specs.declared.unit_hunk.Definition.TheVariants.{At, Absolute}

-- ---- symbols in a set

-- the name of a key is behind a reference
abbrev pub Key : Type 0
Key = Bor (List ℕ) × ℕ

abbrev pub shown : Key → Symbol
shown key = (key.0.now, key.1)

abbrev pub same_key : Key → Key → Bool
same_key one other = is_symbol (shown one) (shown other)

pub list_any-shown : (test : Symbol → Bool) (keys : List Key) → list_any (λ key. test (shown key)) keys ≡ list_any test (map shown keys)
list_any-shown test [] = refl
list_any-shown test (key ∷ keys) = ap (λ b. test (shown key) || b) (list_any-shown test keys)

shown-insert : (keys : List Key) (key : Key) → map shown (insert_key same_key keys key) ≡ insert_key is_symbol (map shown keys) (shown key)
shown-insert keys key =
    by (list_any (same_key key) keys)
    ∙ ap (λ there. if there then map shown keys else map shown keys ++ shown key ∷ []) (list_any-shown (is_symbol (shown key)) keys)
  where
    by : (there : Bool) → map shown (if there then keys else keys ++ key ∷ []) ≡ (if there then map shown keys else map shown keys ++ shown key ∷ [])
    by true = refl
    by false = map_push shown keys key

same_symbol : (one other : Symbol) → is_symbol one other ≡ true → one ≡ other
same_symbol one other told =
    let parts = and_parts (pointwise nat_eq one.0 other.0) (nat_eq one.1 other.1) told in
    ap₂ (λ (name : List ℕ) (value : ℕ). let it : Symbol = (name, value) in it) (same_text one.0 other.0 (sym parts.0)) (eqb-true one.1 other.1 parts.1)

or_false : (b : Bool) → (b || false) ≡ b
or_false true = refl
or_false false = refl

-- which symbols are there after one is inserted
among-insert : (symbol : Symbol) (symbols : List Symbol) (new : Symbol) → is_among (insert_key is_symbol symbols new) symbol ≡ (is_among symbols symbol || is_symbol symbol new)
among-insert symbol symbols new = by (list_any (is_symbol new) symbols) (is_symbol symbol new) refl refl
  where
    by : (there same : Bool) → there ≡ list_any (is_symbol new) symbols → same ≡ is_symbol symbol new
        → is_among (if there then symbols else symbols ++ new ∷ []) symbol ≡ (is_among symbols symbol || is_symbol symbol new)
    by false same absent is = list_any-append (is_symbol symbol) symbols (new ∷ []) ∙ ap (λ b. is_among symbols symbol || b) (or_false (is_symbol symbol new))
    by true false there is = sym (ap (λ b. is_among symbols symbol || b) (sym is) ∙ or_false (is_among symbols symbol))
    by true true there is =
        let found : is_among symbols symbol ≡ true = ap (λ (it : Symbol). is_among symbols it) (same_symbol symbol new (sym is)) ∙ sym there in
        found ∙ sym (ap (λ b. b || is_symbol symbol new) found)

pub among-inserted : (keys : List Key) (key : Key) (symbol : Symbol) → is_among (map shown (insert_key same_key keys key)) symbol ≡ (is_among (map shown keys) symbol || is_symbol symbol (shown key))
among-inserted keys key symbol = ap (λ symbols. is_among symbols symbol) (shown-insert keys key) ∙ among-insert symbol (map shown keys) (shown key)

pub among-more : (symbols : List Symbol) (i : ℕ) (it symbol : Symbol) → i < length symbols → it ≡ get_or symbols i it → is_among (take (i + 1) symbols) symbol ≡ (is_among (take i symbols) symbol || is_symbol symbol it)
among-more symbols i it symbol within is =
    ap (λ own. is_among own symbol) (take_more symbols i it within ∙ ap (λ (s : Symbol). take i symbols ++ s ∷ []) (sym is))
    ∙ list_any-append (is_symbol symbol) (take i symbols) (it ∷ []) ∙ ap (λ b. is_among (take i symbols) symbol || b) (or_false (is_symbol symbol it))

-- ---- definitions so far

-- the definition after these adds its symbol, unless it is there
abbrev its_symbols : (own : List Symbol) → Option Symbol → List Symbol
its_symbols own None = []
its_symbols own (Some symbol) = if is_among own symbol then [] else symbol ∷ []

others-of : (own : List Symbol) (definition : List ℕ × Definition) → others own (global_symbols (definition ∷ [])) ≡ its_symbols own (symbol_of definition.0 definition.1)
others-of own definition = by (symbol_of definition.0 definition.1)
  where
    at : (symbol : Symbol) (there : Bool) → (if not there then symbol ∷ [] else []) ≡ (if there then [] else symbol ∷ [])
    at symbol true = refl
    at symbol false = refl

    by : (its : Option Symbol) → others own (filter_map (λ (o : Option Symbol). o) (its ∷ [])) ≡ its_symbols own its
    by None = refl
    by (Some symbol) = at symbol (is_among own symbol)

others-more : (own : List Symbol) (definitions : List (List ℕ × Definition)) (i : ℕ) (definition : List ℕ × Definition) → i < length definitions → definition ≡ get_or definitions i definition
    → others own (global_symbols (take (i + 1) definitions)) ≡ others own (global_symbols (take i definitions)) ++ its_symbols own (symbol_of definition.0 definition.1)
others-more own definitions i definition within is =
    ap (λ ds. others own (global_symbols ds)) (take_more definitions i definition within ∙ ap (λ d. take i definitions ++ d ∷ []) (sym is))
    ∙ ap (others own) (filter_map-append (λ (d : List ℕ × Definition). symbol_of d.0 d.1) (take i definitions) (definition ∷ []))
    ∙ filter-append (λ symbol. not (is_among own symbol)) (global_symbols (take i definitions)) (global_symbols (definition ∷ []))
    ∙ ap (λ more. others own (global_symbols (take i definitions)) ++ more) (others-of own definition)

-- a definition that is an offset, and not among the symbols
pub others-new : (own : List Symbol) (definitions : List (List ℕ × Definition)) (i : ℕ) (definition : List ℕ × Definition) (offset : ℕ) → i < length definitions → definition ≡ get_or definitions i definition
    → definition.1 ≡ At offset → is_among own (definition.0, offset) ≡ false
    → others own (global_symbols (take (i + 1) definitions)) ≡ others own (global_symbols (take i definitions)) ++ (definition.0, offset) ∷ []
others-new own definitions i definition offset within is at absent =
    others-more own definitions i definition within is
    ∙ ap (λ d. others own (global_symbols (take i definitions)) ++ its_symbols own (symbol_of definition.0 d)) at
    ∙ ap (λ (there : Bool). others own (global_symbols (take i definitions)) ++ (if there then [] else (definition.0, offset) ∷ [])) absent

-- one that is among them
pub others-there : (own : List Symbol) (definitions : List (List ℕ × Definition)) (i : ℕ) (definition : List ℕ × Definition) (offset : ℕ) → i < length definitions → definition ≡ get_or definitions i definition
    → definition.1 ≡ At offset → is_among own (definition.0, offset) ≡ true
    → others own (global_symbols (take (i + 1) definitions)) ≡ others own (global_symbols (take i definitions))
others-there own definitions i definition offset within is at there =
    others-more own definitions i definition within is
    ∙ ap (λ d. others own (global_symbols (take i definitions)) ++ its_symbols own (symbol_of definition.0 d)) at
    ∙ ap (λ (found : Bool). others own (global_symbols (take i definitions)) ++ (if found then [] else (definition.0, offset) ∷ [])) there
    ∙ append-nil (others own (global_symbols (take i definitions)))

-- a number
pub others-absolute : (own : List Symbol) (definitions : List (List ℕ × Definition)) (i : ℕ) (definition : List ℕ × Definition) (number : ℕ) → i < length definitions → definition ≡ get_or definitions i definition
    → definition.1 ≡ Absolute number
    → others own (global_symbols (take (i + 1) definitions)) ≡ others own (global_symbols (take i definitions))
others-absolute own definitions i definition number within is absolute =
    others-more own definitions i definition within is
    ∙ ap (λ d. others own (global_symbols (take i definitions)) ++ its_symbols own (symbol_of definition.0 d)) absolute
    ∙ append-nil (others own (global_symbols (take i definitions)))

-- its name may be that of a symbol
abbrev pub IsShort : List ℕ × Definition → Type 0
IsShort definition = length definition.0 ≤ most_name

pub short-at : (definitions items : List (List ℕ × Definition)) (i : ℕ) (definition : List ℕ × Definition) → items ≡ definitions → i < length items → definition ≡ get_or items i definition → All IsShort definitions
    → length definition.0 ≤ most_name
short-at definitions items i definition same within is all =
    subst IsShort (sym is) (subst (All IsShort) (sym same) all i definition within)

-- ---- the hunk

-- a hunk with more symbols, of which something holds
pub with_more : (inside hunk : ObjectHunk) (symbols more : List Symbol) → symbols ≡ inside.symbols ++ more → inside ≡ hunk
    → record inside { symbols = symbols } ≡ record hunk { symbols = hunk.symbols ++ more }
with_more inside hunk symbols more is same =
    ap (λ own. let made : ObjectHunk = record inside { symbols = own } in made) is
    ∙ ap (λ (h : ObjectHunk). let made : ObjectHunk = record h { symbols = h.symbols ++ more } in made) same

abbrev IsShortSymbol : Symbol → Type 0
IsShortSymbol symbol = length symbol.0 ≤ most_name

pub IsUnitHunk-more : (hunk : ObjectHunk) (symbols more : List Symbol) → symbols ≡ hunk.symbols ++ more → IsUnitHunk hunk → All IsShortSymbol more → IsUnitHunk (record hunk { symbols = symbols })
IsUnitHunk-more hunk symbols more is valid short = record {
  whole = valid.whole;
  limit = valid.limit;
  apart = valid.apart;
  adds = valid.adds;
  defined = valid.defined;
  names = subst (All IsShortSymbol) (sym is) (All-append IsShortSymbol hunk.symbols more valid.names short);
}

-- ---- lists that are made of others, item by item

module _ {X : Type 0} (f : X → X) (made left rest all : List X) (x : X) (is : left ≡ x ∷ rest) (so_far : made ++ map f left ≡ all) where
  pub made-more : (new : List X) (it : X) → it ≡ f x → new ≡ made ++ it ∷ [] → new ++ map f rest ≡ all
  made-more new it it_is new_is =
      ap (λ n. n ++ map f rest) (new_is ∙ ap (λ i. made ++ i ∷ []) it_is) ∙ append_assoc made (f x ∷ []) (map f rest) ∙ ap (λ l. made ++ map f l) (sym is) ∙ so_far

  pub made-room : length made < length all
  made-room =
      let more : length (map f left) ≡ length (map f rest) + 1 = ap (λ l. length (map f l)) is ∙ sym (add-one (length (map f rest))) in
      omega (arith, ap length so_far, length-append made (map f left), more)

pub made-all : {X : Type 0} (f : X → X) (made left all : List X) → left ≡ [] → made ++ map f left ≡ all → made ≡ all
made-all f made left all none so_far = sym (append-nil made) ∙ ap (λ l. made ++ map f l) (sym none) ∙ so_far

pub made-unit : (strip : Bool) (name : List ℕ) (hunks : List ObjectHunk) (unit : ObjectUnit) → name ≡ unit.name → hunks ≡ map (hunk_with_globals strip) unit.hunks → record { name = name; hunks = hunks } ≡ unit_with_globals strip unit
made-unit strip name hunks unit same is = ap₂ (λ (n : List ℕ) (hs : List ObjectHunk). let made : ObjectUnit = record { name = n; hunks = hs } in made) same is

-- ---- what the type of a hunk says of one with its definitions as symbols

own-short : (strip : Bool) (symbols : List Symbol) → All IsShortSymbol symbols → All IsShortSymbol (if strip then [] else symbols)
own-short true symbols short = All-nil IsShortSymbol
own-short false symbols short = short

globals-short : (definitions : List (List ℕ × Definition)) → All IsShort definitions → All IsShortSymbol (global_symbols definitions)
globals-short [] short = All-nil IsShortSymbol
globals-short ((name, At offset) ∷ definitions) short =
    All-cons IsShortSymbol (name, offset) (global_symbols definitions) (All-head IsShort (name, At offset) definitions short)
    (globals-short definitions (All-tail IsShort (name, At offset) definitions short))
globals-short ((name, Absolute number) ∷ definitions) short = globals-short definitions (All-tail IsShort (name, Absolute number) definitions short)

pub IsUnitHunk-globals : (strip : Bool) (hunk : ObjectHunk) → IsUnitHunk hunk → IsUnitHunk (hunk_with_globals strip hunk)
IsUnitHunk-globals strip hunk valid =
    let own : List Symbol = if strip then [] else hunk.symbols in
    let all = globals-short hunk.definitions valid.defined in
    record {
      whole = valid.whole;
      limit = valid.limit;
      apart = valid.apart;
      adds = valid.adds;
      defined = valid.defined;
      names = All-append IsShortSymbol own (others own (global_symbols hunk.definitions)) (own-short strip hunk.symbols valid.names)
          (All-filter (λ symbol. not (is_among own symbol)) IsShortSymbol (global_symbols hunk.definitions) all);
    }
