-- The bytes of the hunks of a load file.
use Rattle.std.proofs.Common.{◌≡◌, ◌<◌, ◌^◌, ◌∙◌, ℕ, List, [], ◌∷◌, ◌++◌, length, sym, ap, arith}
use Rattle.std.proofs.lemmas.List.{length-append, length-map}
use Rattle.std.specs.List.{flat_map}
use Rattle.hunk_base.specs.Longwords.{longwords}
use Rattle.hunk_base.specs.Name.{bytes_of}
use Rattle.hunk_loadfile.specs.declared.load_form.LoadForm.{LoadForm}
use Rattle.hunk_loadfile.specs.LoadHunk.{FileHunk}
use Rattle.hunk_loadfile.specs.Rules.{IsLoadFile, IsLoadHunk}
use Rattle.hunk_loadfile.specs.WrittenForm.{content_words, debug_words, header_words, hunk_words, relocation_words, size_word, symbols_words, written_in}
use Rattle.hunk_loadfile.proofs.WrittenFormLengthLemmas.{length-hunks-le}
use Rattle.hunk_loadfile.proofs.LongwordWriterLemmas.{bytes_of-append, bytes_of-flat_map, length-bytes_of}
use Rattle.hunk_base.proofs.LongwordsByteLemmas.{bytes_of-longwords}
use Rattle.hunk_base.proofs.LongwordsLemmas.{IsWhole-length}

-- ---- hunks

-- the content, as its head and its bytes
pub content-text : (count : ℕ) (h : FileHunk) (head bytes : List ℕ) → IsLoadHunk count h → head ++ longwords h.content ≡ content_words h.kind h.size (longwords h.content) → bytes ≡ h.content
    → bytes_of (content_words h.kind h.size (longwords h.content)) ≡ bytes_of head ++ bytes
content-text count h head bytes valid is same =
    ap bytes_of (sym is) ∙ bytes_of-append head (longwords h.content)
    ∙ ap (λ (t : List ℕ). bytes_of head ++ t) (bytes_of-longwords h.content valid.typed.bytes (IsWhole-length h.content valid.whole) ∙ sym same)

-- the parts of a hunk with these sites, symbols and debug blocks
pub hunk-bytes : (form : LoadForm) (count : ℕ) (h : FileHunk) (entries : List (ℕ × ℕ)) (symbols : List (List ℕ × ℕ)) (debugs : List (List ℕ)) → entries ≡ h.sites.entries → symbols ≡ h.symbols → debugs ≡ h.debugs
    → bytes_of (hunk_words form count h)
    ≡ bytes_of (content_words h.kind h.size (longwords h.content))
    ++ (bytes_of (relocation_words form count entries) ++ (bytes_of (symbols_words symbols) ++ (flat_map (λ ws. bytes_of (debug_words ws)) debugs ++ bytes_of (1010 ∷ []))))
hunk-bytes form count h entries symbols debugs sites named blocks =
    let content = content_words h.kind h.size (longwords h.content) in
    let relocations = relocation_words form count h.sites.entries in
    let names = symbols_words h.symbols in
    let infos = flat_map debug_words h.debugs in
    rw (sites, named, blocks)
    (bytes_of-append content (relocations ++ (names ++ (infos ++ 1010 ∷ [])))
    ∙ ap (λ (bytes : List ℕ). bytes_of content ++ bytes) (bytes_of-append relocations (names ++ (infos ++ 1010 ∷ []))
    ∙ ap (λ (bytes : List ℕ). bytes_of relocations ++ bytes) (bytes_of-append names (infos ++ 1010 ∷ [])
    ∙ ap (λ (bytes : List ℕ). bytes_of names ++ bytes) (bytes_of-append infos (1010 ∷ []) ∙ ap (λ (bytes : List ℕ). bytes ++ bytes_of (1010 ∷ [])) (bytes_of-flat_map debug_words h.debugs)))))

-- ---- files

-- the parts of a file
pub file-bytes : (form : LoadForm) (hunks : List FileHunk) → bytes_of (written_in form hunks) ≡ bytes_of (header_words hunks) ++ flat_map (λ h. bytes_of (hunk_words form (length hunks) h)) hunks
file-bytes form hunks =
    let words = hunk_words form (length hunks) in
    bytes_of-append (header_words hunks) (flat_map words hunks) ∙ ap (λ (bytes : List ℕ). bytes_of (header_words hunks) ++ bytes) (bytes_of-flat_map words hunks)

-- A whole file is far below 2^64 bytes.
pub length-file-lt : (form : LoadForm) (hunks : List FileHunk) → IsLoadFile hunks → length (bytes_of (written_in form hunks)) < 2 ^ 64
length-file-lt form hunks valid =
    let body = flat_map (hunk_words form (length hunks)) hunks in
    omega (
      arith,
      valid.few,
      valid.small,
      valid.carries,
      length-bytes_of (written_in form hunks),
      length-append (header_words hunks) body,
      length-map hunks size_word,
      length-hunks-le form (length hunks) hunks valid.each,
    )
