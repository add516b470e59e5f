-- How many bytes the documents of the parts of a file have.
use Rattle.std.proofs.Common.{◌≡◌, ◌∙◌, ℕ, ◌+◌, ◌*◌, ◌^◌, ◌≤◌, List, [], ◌∷◌, IsUtf8, drop, length, slice_index, sum_by, ap, refl, subst, sym, codes, arith}
use Rattle.std.specs.List.{All}
use Rattle.std.proofs.lemmas.List.{length-append}
use Rattle.std.proofs.lemmas.List.Elements.{All-cons, All-head, All-nil, All-tail}
use Rattle.std.proofs.lemmas.List.Sums.{sum_by-cons}
use Rattle.base64.specs.Engines.{standard}
use Rattle.base64.specs.GeneralPurpose.{encode_of}
use Rattle.json.specs.Print.{escape_byte}
use Rattle.serde_json.specs.Data.{Data}
use Rattle.serde_json.specs.Written.{compact_text}
use Rattle.hunk_words.specs.declared.kinds.HunkKind.{HunkKind}
use Rattle.hunk_words.specs.declared.kinds.HunkKind.TheVariants.{Code, Data as DataHunk, Bss}
use Rattle.hunk_words.specs.declared.kinds.Memory.{Memory}
use Rattle.hunk_words.specs.declared.kinds.Memory.TheVariants.{Any, Chip, Fast}
use Rattle.hunk_text.proofs.ListingSizeLemmas.{HasShortName}
use Rattle.hunk_json.specs.Document.{document, further_members}
use Rattle.hunk_json.specs.FileJson.{content_members, debug_json, hunk_json, hunk_site_json, hunks_at, hunks_json, kind_json, listed, memory_json, stored_members, symbol_json}
use Rattle.hunk_json.specs.declared.form.JsonForm.{JsonForm}
use Rattle.hunk_json.specs.declared.form.JsonForm.TheVariants.{Plain, WithContent, InPage}
use Rattle.hunk_json.proofs.ContentLemmas.{length-encoded}
use Rattle.hunk_json.proofs.DocumentLemmas.{document-told, told-utf8}
use Rattle.hunk_json.proofs.DocumentSizeLemmas.{length-each-le, length-listed-le, length-name-le, length-natural-le, length-string-le}
use Rattle.hunk_json.proofs.FileJsonLemmas.{hunk_site-told, natural-utf8, symbol-told}

-- the most bytes of an element whose names have no more than 2^26 bytes
abbrev pub most_element : ℕ
most_element = 2 ^ 32 + 2 ^ 28

-- the most bytes of a hunk or a unit for each element, and for each byte of its name
abbrev pub most_part : ℕ
most_part = 2 ^ 33

-- the most bytes of a document
abbrev pub most_document : ℕ
most_document = 2 ^ 63 + 2 ^ 32

pub length-hunk_site-le : (form : JsonForm) (site : ℕ × ℕ) → length (document form (hunk_site_json site)) + 1 ≤ most_element
unfolding escape_byte
length-hunk_site-le form site =
    rw (document-told form (hunk_site_json site) (hunk_site-told site)) (simp length-append (omega (arith, length-natural-le form site.0, length-natural-le form site.1)))

length-symbol-le : (form : JsonForm) (symbol : List ℕ × ℕ) → HasShortName symbol → length (document form (symbol_json symbol)) + 1 ≤ most_element
unfolding escape_byte
length-symbol-le form symbol short =
    rw (document-told form (symbol_json symbol) (symbol-told symbol)) (simp length-append (omega (arith, length-name-le form symbol.0, length-natural-le form symbol.1)))

pub length-symbols-le : (form : JsonForm) (symbols : List (List ℕ × ℕ)) → All HasShortName symbols → length (document form (listed symbol_json symbols)) ≤ 2 + most_element * length symbols
length-symbols-le form symbols short = length-each-le form symbol_json most_element HasShortName symbols (λ symbol. told-utf8 (symbol_json symbol) (symbol-told symbol)) (length-symbol-le form) short

pub length-debugs-le : (form : JsonForm) (debugs : List (List ℕ)) → length (document form (listed debug_json debugs)) ≤ 2 + most_element * length debugs
length-debugs-le form debugs =
    length-each-le form debug_json most_element (λ words. Unit {0}) debugs (λ words. natural-utf8 (length words)) (λ words is. omega (arith, length-natural-le form (length words))) (λ k d within. tt)

pub length-kind-le : (form : JsonForm) (kind : HunkKind) → length (document form (kind_json kind)) ≤ 200
length-kind-le form Code = omega (arith, length-string-le form (codes "code"))
length-kind-le form DataHunk = omega (arith, length-string-le form (codes "data"))
length-kind-le form Bss = omega (arith, length-string-le form (codes "bss"))

pub length-memory-le : (form : JsonForm) (memory : Memory) → length (document form (memory_json memory)) ≤ 200
length-memory-le form Any = omega (arith, length-string-le form (codes "any"))
length-memory-le form Chip = omega (arith, length-string-le form (codes "chip"))
length-memory-le form Fast = omega (arith, length-string-le form (codes "fast"))

length-stored_members-le : (form : JsonForm) (offset : ℕ) (content : List ℕ) → length (further_members form (stored_members offset content)) ≤ 100 * length content + 400
unfolding escape_byte
length-stored_members-le form offset content =
    simp length-append (omega (arith, length-string-le form (encode_of standard content), length-encoded content, length-natural-le form offset))

pub length-content-le : (form : JsonForm) (offset : ℕ) (content : List ℕ) → length (further_members form (content_members form offset content)) ≤ 100 * length content + 400
length-content-le Plain offset content = omega arith
length-content-le WithContent offset content = length-stored_members-le WithContent offset content
length-content-le InPage offset content = length-stored_members-le InPage offset content

-- ---- hunks with offsets, and units with theirs

-- Hunks have the same weight without their offsets.
pub sum_by-hunks_at : {T : Type 0} (weight : T → ℕ) (offsets : List ℕ) (hunks : List T) → sum_by (λ (hunk : ℕ × T). weight hunk.1) (hunks_at offsets hunks) ≡ sum_by weight hunks
sum_by-hunks_at weight offsets [] = refl
sum_by-hunks_at {T = T} weight offsets (hunk ∷ hunks) =
    sum_by-cons (λ (h : ℕ × T). weight h.1) (slice_index offsets 0, hunk) (hunks_at (drop 1 offsets) hunks)
    ∙ ap (λ sum. weight hunk + sum) (sum_by-hunks_at weight (drop 1 offsets) hunks)
    ∙ sym (sum_by-cons weight hunk hunks)

pub All-hunks_at : {T : Type 0} (P : T → Type 0) (offsets : List ℕ) (hunks : List T) → All P hunks → All (λ (hunk : ℕ × T). P hunk.1) (hunks_at offsets hunks)
All-hunks_at {T = T} P offsets [] all = All-nil (λ (h : ℕ × T). P h.1)
All-hunks_at {T = T} P offsets (hunk ∷ hunks) all =
    All-cons (λ (h : ℕ × T). P h.1) (slice_index offsets 0, hunk) (hunks_at (drop 1 offsets) hunks) (All-head P hunk hunks all)
    (All-hunks_at P (drop 1 offsets) hunks (All-tail P hunk hunks all))

-- How long the array of hunks is, each of which has at most as many bytes as its weight says.
pub length-hunks-le : {T : Type 0} (form : JsonForm) (value : ℕ → T → Data) (weight : T → ℕ) (P : T → Type 0) (offsets : List ℕ) (hunks : List T)
    → ((hunk : ℕ × T) → IsUtf8 (compact_text (hunk_json value hunk))) → ((offset : ℕ) (hunk : T) → P hunk → length (document form (value offset hunk)) + 1 ≤ most_part * weight hunk) → All P hunks
    → length (document form (hunks_json value offsets hunks)) ≤ 2 + most_part * sum_by weight hunks
length-hunks-le {T = T} form value weight P offsets hunks utf8 short all =
    subst (λ sum. length (document form (hunks_json value offsets hunks)) ≤ 2 + most_part * sum) (sum_by-hunks_at weight offsets hunks)
    (length-listed-le form (hunk_json value) (λ (h : ℕ × T). weight h.1) most_part (λ (h : ℕ × T). P h.1) (hunks_at offsets hunks) utf8 (λ h is. short h.0 h.1 is) (All-hunks_at P offsets hunks all))
