-- The JSON values of the parts of a file: their keys are plain, and their texts are UTF-8.
use Rattle.std.proofs.Common.{◌≡◌, ◌∙◌, ℕ, ◌/◌, List, [], ◌∷◌, ◌++◌, Bool, true, false, IsUtf8, Vec, length, map, codes, ap, refl, append_assoc, sym}
use Rattle.std.specs.Fmt.{decimal}
use Rattle.std.specs.Str.{is_utf8}
use Rattle.std.proofs.lemmas.Bool.{cond_both, cond-false, cond-true, false_from_ne_true}
use Rattle.std.proofs.lemmas.Str.{IsUtf8-from_is_utf8, is_utf8-from_IsUtf8}
use Rattle.json.proofs.Printed.Utf8.{IsUtf8-boolean, IsUtf8-quoted}
use Rattle.json.specs.Print.{escape_byte, quoted}
use Rattle.serde_json.specs.Data.{Data, array, boolean, string}
use Rattle.serde_json.specs.View.{items_of}
use Rattle.serde_json.specs.Written.{comma_if, compact_text}
use Rattle.hunk_words.specs.DebugInfo.{lists_of}
use Rattle.hunk_words.specs.declared.kinds.HunkKind.{HunkKind}
use Rattle.hunk_words.specs.declared.kinds.HunkKind.TheVariants.{Code, Data as DataHunk, Bss}
use Rattle.hunk_words.specs.declared.kinds.Memory.{Memory}
use Rattle.hunk_words.specs.declared.kinds.Memory.TheVariants.{Any, Chip, Fast}
use Rattle.hunk_objects.specs.ProgramUnit.{ObjectUnit}
use Rattle.hunk_objects.specs.UnitHunk.{ObjectHunk}
use Rattle.hunk_objects.specs.declared.unit_hunk.Adds.{Adds}
use Rattle.hunk_objects.specs.declared.unit_hunk.Adds.TheVariants.{Hunk, Reference}
use Rattle.hunk_objects.specs.declared.unit_hunk.Definition.{Definition}
use Rattle.hunk_objects.specs.declared.unit_hunk.Definition.TheVariants.{At, Absolute}
use Rattle.hunk_loadfile.specs.LoadHunk.{FileHunk}
use Rattle.hunk_json.specs.Document.{document, further_members}
use Rattle.hunk_json.specs.FileJson.{adds_json, content_members, debug_json, definition_json, hunk_json, hunk_site_json, hunks_at, kind_json, listed, load_hunk_json, load_json, meaning_json, members_in, memory_json, name_json, natural, object_json, site_json, stands_for_json, symbol_json, unit_hunk_json, unit_json, units_at}
use Rattle.hunk_json.specs.declared.form.JsonForm.{JsonForm}
use Rattle.hunk_json.specs.declared.form.JsonForm.TheVariants.{Plain, WithContent, InPage}
use Rattle.hunk_json.proofs.ContentLemmas.{base64-utf8}
use Rattle.hunk_json.proofs.DocumentLemmas.{AreTold, IsTold, listed-utf8, members_told, told-utf8}
use Rattle.hunk_json.proofs.EscapesLemmas.{IsUtf8-plain, decimal-plain, with_escapes-plain}

-- ---- numbers and words

pub natural-utf8 : (n : ℕ) → IsUtf8 (compact_text (natural n))
natural-utf8 n = IsUtf8-plain (decimal n) (decimal-plain n)

pub natural-document : (form : JsonForm) (n : ℕ) → document form (natural n) ≡ decimal n
natural-document form n = with_escapes-plain form (decimal n) (decimal-plain n)

pub kind-utf8 : (kind : HunkKind) → IsUtf8 (compact_text (kind_json kind))
unfolding escape_byte
kind-utf8 Code = IsUtf8-plain _ refl
kind-utf8 DataHunk = IsUtf8-plain _ refl
kind-utf8 Bss = IsUtf8-plain _ refl

pub memory-utf8 : (memory : Memory) → IsUtf8 (compact_text (memory_json memory))
unfolding escape_byte
memory-utf8 Any = IsUtf8-plain _ refl
memory-utf8 Chip = IsUtf8-plain _ refl
memory-utf8 Fast = IsUtf8-plain _ refl

pub boolean-document : (form : JsonForm) (b : Bool) → document form (boolean b) ≡ compact_text (boolean b)
boolean-document form true = with_escapes-plain form (codes "true") refl
boolean-document form false = with_escapes-plain form (codes "false") refl

-- the kind of a file
pub kind_load-document : (form : JsonForm) → document form (string (codes "load file")) ≡ codes "\"load file\""
unfolding escape_byte
kind_load-document form = with_escapes-plain form (codes "\"load file\"") refl

pub kind_object-document : (form : JsonForm) → document form (string (codes "object file")) ≡ codes "\"object file\""
unfolding escape_byte
kind_object-document form = with_escapes-plain form (codes "\"object file\"") refl

bytes-utf8 : (bytes : List ℕ) → IsUtf8 (compact_text (listed natural bytes))
bytes-utf8 bytes = listed-utf8 natural bytes natural-utf8

pub name-utf8 : (name : List ℕ) → IsUtf8 (compact_text (name_json name))
name-utf8 name =
    cond_both (is_utf8 name) (string name) (listed natural name) (λ value. IsUtf8 (compact_text value)) (λ is. IsUtf8-quoted name (IsUtf8-from_is_utf8 name is)) (λ is. bytes-utf8 name)

pub name-text : (name : List ℕ) → IsUtf8 name → string name ≡ name_json name
name-text name utf8 = sym (cond-true (is_utf8 name) (string name) (listed natural name) (is_utf8-from_IsUtf8 name utf8))

pub name-bytes : (name : List ℕ) → (IsUtf8 name → ⊥) → listed natural name ≡ name_json name
name-bytes name not =
    sym (cond-false (is_utf8 name) (string name) (listed natural name) (false_from_ne_true (is_utf8 name) (λ is. not (IsUtf8-from_is_utf8 name is))))

-- ---- what hunks of either kind of file have

pub hunk_site-told : (site : ℕ × ℕ) → IsTold (hunk_site_json site)
unfolding escape_byte
hunk_site-told site = (refl, (natural-utf8 site.1, (refl, (natural-utf8 site.0, tt))))

pub symbol-told : (symbol : List ℕ × ℕ) → IsTold (symbol_json symbol)
unfolding escape_byte
symbol-told symbol = (refl, (name-utf8 symbol.0, (refl, (natural-utf8 symbol.1, tt))))

debugs-utf8 : (debugs : List (List ℕ)) → IsUtf8 (compact_text (listed debug_json debugs))
debugs-utf8 debugs = listed-utf8 debug_json debugs (λ words. natural-utf8 (length words))

symbols-utf8 : (symbols : List (List ℕ × ℕ)) → IsUtf8 (compact_text (listed symbol_json symbols))
symbols-utf8 symbols = listed-utf8 symbol_json symbols (λ symbol. told-utf8 (symbol_json symbol) (symbol-told symbol))

-- debug blocks, whose longwords are lists
counts : {A : Type 0} (vecs : List (Vec ℕ A)) → map (λ words. debug_json words.items) vecs ≡ map debug_json (lists_of vecs)
counts [] = refl
counts (words ∷ vecs) = ap (λ values. debug_json words.items ∷ values) (counts vecs)

pub debugs-listed : {A : Type 0} (vecs : List (Vec ℕ A)) → listed (λ words. debug_json words.items) vecs ≡ listed debug_json (lists_of vecs)
debugs-listed vecs = ap (λ values. array (items_of values)) (counts vecs)

-- the further members about the content, in front of others
content-told : (form : JsonForm) (offset : ℕ) (content : List ℕ) (rest : List (List ℕ × Data)) → AreTold (members_in rest) → AreTold (members_in (content_members form offset content ++ rest))
unfolding escape_byte
content-told Plain offset content rest is = is
content-told WithContent offset content rest is = (refl, (base64-utf8 content, (refl, (natural-utf8 offset, is))))
content-told InPage offset content rest is = (refl, (base64-utf8 content, (refl, (natural-utf8 offset, is))))

members-further : (form : JsonForm) (parts rest : List (List ℕ × Data))
    → members_told form true (members_in (parts ++ rest)) ≡ further_members form parts ++ members_told form true (members_in rest)
members-further form [] rest = refl
members-further form (part ∷ parts) rest =
    ap (λ end. comma_if true ++ (quoted part.0 ++ 58 ∷ (document form part.1 ++ end))) (members-further form parts rest) ∙ (simp append_assoc)

pub content-members : (form : JsonForm) (offset : ℕ) (content : List ℕ) (rest : List (List ℕ × Data))
    → members_told form true (members_in (content_members form offset content ++ rest)) ≡ further_members form (content_members form offset content) ++ members_told form true (members_in rest)
content-members form offset content rest = members-further form (content_members form offset content) rest

-- ---- load files

pub load_hunk-told : (form : JsonForm) (offset : ℕ) (hunk : FileHunk) → IsTold (load_hunk_json form offset hunk)
unfolding escape_byte
load_hunk-told form offset hunk =
    let sites = listed-utf8 hunk_site_json hunk.sites.entries (λ site. told-utf8 (hunk_site_json site) (hunk_site-told site)) in
    let symbols : AreTold (members_in ((codes "symbols", listed symbol_json hunk.symbols) ∷ [])) = (refl, (symbols-utf8 hunk.symbols, tt)) in (
      refl,
      (
        debugs-utf8 hunk.debugs,
        (
          refl,
          (
            kind-utf8 hunk.kind,
            (
              refl,
              (
                memory-utf8 hunk.memory,
                (
                  refl,
                  (
                    sites,
                    (
                      refl,
                      (
                        natural-utf8 hunk.size,
                        (refl, (natural-utf8 (length hunk.content / 4), content-told form offset hunk.content _ symbols)),
                      ),
                    ),
                  ),
                ),
              ),
            ),
          ),
        ),
      ),
    )

pub load_hunk-utf8 : (form : JsonForm) (hunk : ℕ × FileHunk) → IsUtf8 (compact_text (hunk_json (load_hunk_json form) hunk))
load_hunk-utf8 form hunk = told-utf8 (load_hunk_json form hunk.0 hunk.1) (load_hunk-told form hunk.0 hunk.1)

pub load-told : (form : JsonForm) (offsets : List ℕ) (hunks : List FileHunk) → IsTold (load_json form offsets hunks)
unfolding escape_byte
load-told form offsets hunks = (refl, (listed-utf8 (hunk_json (load_hunk_json form)) (hunks_at offsets hunks) (load_hunk-utf8 form), (refl, (IsUtf8-plain _ refl, tt))))

-- ---- object files

pub adds-told : (references : List (List ℕ)) (offset : ℕ) (adds : Adds) → IsTold (adds_json references offset adds)
unfolding escape_byte
adds-told references offset (Hunk hunk) = hunk_site-told (offset, hunk)
adds-told references offset (Reference index) = (refl, (name-utf8 _, (refl, (natural-utf8 offset, tt))))

pub stands_for-told : (name : List ℕ) (absolute : Bool) (value : ℕ) → IsTold (stands_for_json name absolute value)
unfolding escape_byte
stands_for-told name absolute value = (refl, (IsUtf8-boolean absolute, (refl, (name-utf8 name, (refl, (natural-utf8 value, tt))))))

pub meaning-told : (name : List ℕ) (definition : Definition) → IsTold (meaning_json name definition)
meaning-told name (At offset) = stands_for-told name false offset
meaning-told name (Absolute value) = stands_for-told name true value

pub unit_hunk-told : (form : JsonForm) (offset : ℕ) (hunk : ObjectHunk) → IsTold (unit_hunk_json form offset hunk)
unfolding escape_byte
unit_hunk-told form offset hunk =
    let definitions = listed-utf8 definition_json hunk.definitions (λ d. told-utf8 (meaning_json d.0 d.1) (meaning-told d.0 d.1)) in
    let sites = listed-utf8 (site_json hunk.references) hunk.sites.entries (λ site. told-utf8 (site_json hunk.references site) (adds-told hunk.references site.0 site.1)) in
    let symbols : AreTold (members_in ((codes "symbols", listed symbol_json hunk.symbols) ∷ [])) = (refl, (symbols-utf8 hunk.symbols, tt)) in (
      refl,
      (
        debugs-utf8 hunk.debugs,
        (
          refl,
          (
            definitions,
            (
              refl,
              (
                kind-utf8 hunk.kind,
                (
                  refl,
                  (
                    memory-utf8 hunk.memory,
                    (
                      refl,
                      (
                        name-utf8 hunk.name,
                        (
                          refl,
                          (
                            sites,
                            (refl, (natural-utf8 hunk.size, content-told form offset hunk.content _ symbols)),
                          ),
                        ),
                      ),
                    ),
                  ),
                ),
              ),
            ),
          ),
        ),
      ),
    )

pub unit_hunk-utf8 : (form : JsonForm) (hunk : ℕ × ObjectHunk) → IsUtf8 (compact_text (hunk_json (unit_hunk_json form) hunk))
unit_hunk-utf8 form hunk = told-utf8 (unit_hunk_json form hunk.0 hunk.1) (unit_hunk-told form hunk.0 hunk.1)

pub unit-told : (form : JsonForm) (unit : List ℕ × ObjectUnit) → IsTold (unit_json form unit)
unfolding escape_byte
unit-told form unit =
    (refl, (listed-utf8 (hunk_json (unit_hunk_json form)) (hunks_at unit.0 unit.1.hunks) (unit_hunk-utf8 form), (refl, (name-utf8 unit.1.name, tt))))

pub object-told : (form : JsonForm) (offsets : List ℕ) (units : List ObjectUnit) → IsTold (object_json form offsets units)
unfolding escape_byte
object-told form offsets units = (refl, (IsUtf8-plain _ refl, (refl, (listed-utf8 (unit_json form) (units_at offsets units) (λ unit. told-utf8 (unit_json form unit) (unit-told form unit)), tt))))
