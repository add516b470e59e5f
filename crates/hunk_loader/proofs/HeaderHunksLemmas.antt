-- What the bytes of a header tell, and what a file that begins with them has there.
use Rattle.std.proofs.Common.{◌≡◌, ℕ, suc, ◌+◌, ◌-◌, ◌*◌, ◌^◌, ◌<◌, ◌≤◌, List, [], ◌∷◌, ◌++◌, drop, get_or, length, map, Option, Some, None, take, refl, sym, ap, ◌∙◌, arith}
use Rattle.std.proofs.Math.Seq.{take-append_seam}
use Rattle.std.proofs.lemmas.List.{drop-append-le, length-append, length-take-le, map-append, take-append-drop}
use Rattle.byteorder.specs.Endian.{big_number}
use Rattle.hunk_base.specs.Longwords.{longwords, unfinished}
use Rattle.hunk_base.proofs.LongwordsLemmas.{length-longwords, length-unfinished, length-whole, longwords-append, longwords-next, unfinished-none}
use Rattle.hunk_words.specs.Kinds.{Field, Within, memory_of}
use Rattle.hunk_words.specs.Kinds.Kind.{hunk_type}
use Rattle.hunk_words.specs.Kinds.Within.{in_load}
use Rattle.hunk_words.specs.FaultTable.{AllPass}
use Rattle.hunk_words.specs.FieldLongwords.{longwords_of}
use Rattle.hunk_words.specs.Files.{IsFile}
use Rattle.hunk_words.specs.Spelling.{content_then, hunk_at, load_hunks, load_spelling, sizes_at, type_longword}
use Rattle.hunk_words.specs.Trees.{BlockTree, BodyTree, ContentTree, LoadHunkTree, LoadTree, NameTree}
use Rattle.hunk_words.specs.Trees.ContentTree.{code_tree, data_tree, bss_tree}
use Rattle.hunk_words.specs.declared.event.FileKind.TheVariants.{Load}
use Rattle.hunk_words.proofs.SpellingBitLemmas.{type_longword-bits, type_longword-low}
use Rattle.hunk_loadfile.specs.LoadFile.{IsLoadOf, load_hunk_value}
use Rattle.hunk_loadfile.specs.LoadHunk.{FileHunk}
use Rattle.hunk_loader.specs.HeaderHunks.{IsHeader, header_hunk, header_length, told_of}
use Rattle.hunk_loader.specs.declared.header_hunks.HeaderHunk.{HeaderHunk}

-- ---- the hunks of its longwords

pub hunks-next : (bytes : List ℕ) (i word : ℕ) → 5 ≤ i → 4 * i + 4 ≤ length bytes → word ≡ big_number 4 (take 4 (drop (4 * i) bytes))
    → map header_hunk (drop 5 (longwords (take (4 * (i + 1)) bytes))) ≡ map header_hunk (drop 5 (longwords (take (4 * i) bytes))) ++ header_hunk word ∷ []
hunks-next bytes i word five within is =
    let front = longwords (take (4 * i) bytes) in
    let count : length front ≡ i = length-whole (take (4 * i) bytes) i (length-take-le (4 * i) bytes (omega arith)) in
    ap (λ ws. map header_hunk (drop 5 ws)) (longwords-next bytes i within)
    ∙ ap (λ ws. map header_hunk ws) (drop-append-le 5 front _ (omega (arith, count)))
    ∙ map-append header_hunk (drop 5 front) _
    ∙ ap (λ w. map header_hunk (drop 5 front) ++ header_hunk w ∷ []) (sym is)

-- ---- its length

pub header_length-few : (ws : List ℕ) → length ws < 3 → header_length ws ≡ 12
header_length-few [] few = refl
header_length-few (a ∷ []) few = refl
header_length-few (a ∷ b ∷ []) few = refl
header_length-few (a ∷ b ∷ n ∷ ws) few = absurd (omega arith)

pub header_length-least : (ws : List ℕ) → 12 ≤ header_length ws
header_length-least [] = omega arith
header_length-least (a ∷ []) = omega arith
header_length-least (a ∷ b ∷ []) = omega arith
header_length-least (a ∷ b ∷ n ∷ ws) = omega arith

header_length-front : (ws us : List ℕ) → 3 ≤ length ws → header_length (ws ++ us) ≡ header_length ws
header_length-front [] us some = absurd (omega arith)
header_length-front (a ∷ []) us some = absurd (omega arith)
header_length-front (a ∷ b ∷ []) us some = absurd (omega arith)
header_length-front (a ∷ b ∷ n ∷ ws) us some = refl

-- what follows the number of hunks does not change it
pub header_length-append : (bytes more : List ℕ) → 12 ≤ length bytes → header_length (longwords (bytes ++ more)) ≡ header_length (longwords bytes)
header_length-append bytes more some =
    ap header_length (longwords-append bytes more)
    ∙ header_length-front (longwords bytes) _ (omega (arith, length-longwords bytes, length-unfinished bytes))

header_length-third : (ws : List ℕ) (count : ℕ) → length ws ≡ 2 → header_length (ws ++ count ∷ []) ≡ 4 * (5 + count)
header_length-third [] count two = absurd (omega arith)
header_length-third (a ∷ []) count two = absurd (omega arith)
header_length-third (a ∷ b ∷ []) count two = refl
header_length-third (a ∷ b ∷ c ∷ ws) count two = absurd (omega arith)

pub header_length-count : (bytes : List ℕ) → 12 ≤ length bytes → header_length (longwords bytes) ≡ 4 * (5 + big_number 4 (take 4 (drop 8 bytes)))
header_length-count bytes some =
    let front = take 12 bytes in
    let two = longwords (take 8 bytes) in
    let long : length front ≡ 12 = length-take-le 12 bytes some in
    ap (λ bs. header_length (longwords bs)) (sym (take-append-drop 12 bytes))
    ∙ header_length-append front (drop 12 bytes) (omega (arith, long))
    ∙ ap header_length (longwords-next bytes 2 (omega arith))
    ∙ header_length-third two _ (length-whole (take 8 bytes) 2 (length-take-le 8 bytes (omega arith)))

-- it is whole longwords
header_length-whole : (ws : List ℕ) → (n : ℕ) × (header_length ws ≡ 4 * n)
header_length-whole [] = (3, refl)
header_length-whole (a ∷ []) = (3, refl)
header_length-whole (a ∷ b ∷ []) = (3, refl)
header_length-whole (a ∷ b ∷ n ∷ ws) = (5 + n, refl)

pub header-is-whole : (bytes : List ℕ) → length bytes ≡ header_length (longwords bytes) → unfinished bytes ≡ []
header-is-whole bytes whole = let n = header_length-whole (longwords bytes) in unfinished-none bytes n.0 (whole ∙ n.1)

-- ---- of a file

-- what the header tells of a hunk
abbrev tree_told : LoadHunkTree → HeaderHunk
tree_told t = record { size = t.size; memory = memory_of t.memory_bits }

sizes-words : (last room : ℕ) (before : List ℕ) (ts : List LoadHunkTree) (rest : List Field)
    → longwords_of (sizes_at last room before ts rest) ≡ map (λ t. type_longword t.memory_bits t.size) ts ++ longwords_of rest
sizes-words last room before [] rest = refl
sizes-words last room before (t ∷ ts) rest = ap (λ ws. type_longword t.memory_bits t.size ∷ ws) (sizes-words last (room - t.size) (t.size ∷ before) ts rest)

word-told : (bits size : ℕ) → type_longword bits size < 2 ^ 32 → header_hunk (type_longword bits size) ≡ record { size = size; memory = memory_of bits }
word-told bits size fits = rw (type_longword-bits bits size fits, type_longword-low bits size fits) refl

sizes-told : (last room : ℕ) (before : List ℕ) (ts : List LoadHunkTree) (rest : List Field) → AllPass (sizes_at last room before ts rest)
    → map header_hunk (map (λ t. type_longword t.memory_bits t.size) ts) ≡ map tree_told ts
sizes-told last room before [] rest pass = refl
sizes-told last room before (t ∷ ts) rest pass =
    ap (λ h. h ∷ map header_hunk (map (λ t. type_longword t.memory_bits t.size) ts)) (word-told t.memory_bits t.size pass.0.fits)
    ∙ ap (λ hs. tree_told t ∷ hs) (sizes-told last (room - t.size) (t.size ∷ before) ts rest pass.1)

values-told : (last : ℕ) (ts : List LoadHunkTree) → map told_of (map (λ t. load_hunk_value last t) ts) ≡ map tree_told ts
values-told last [] = refl
values-told last (t ∷ ts) = ap (λ hs. tree_told t ∷ hs) (values-told last ts)

length-words : (ts : List LoadHunkTree) → length (map (λ t. type_longword t.memory_bits t.size) ts) ≡ length ts
length-words [] = refl
length-words (t ∷ ts) = ap suc (length-words ts)

-- the longwords of a file's header, and those behind it
spelled : (t : LoadTree) → longwords_of (load_spelling t) ≡ type_longword t.type_bits 1011 ∷ 0 ∷ suc (length t.others) ∷ 0 ∷ length t.others ∷
    (map (λ t. type_longword t.memory_bits t.size) (t.first ∷ t.others) ++ longwords_of (load_hunks (length t.others) (t.first ∷ t.others) []))
spelled t =
    ap (λ ws. type_longword t.type_bits 1011 ∷ 0 ∷ suc (length t.others) ∷ 0 ∷ length t.others ∷ ws)
    (sizes-words (length t.others) (2 ^ 24) [] (t.first ∷ t.others) (load_hunks (length t.others) (t.first ∷ t.others) []))

same-front : (xs ys us vs : List ℕ) → length xs ≡ length ys → xs ++ us ≡ ys ++ vs → xs ≡ ys
same-front xs ys us vs long same =
    sym (take-append_seam xs us) ∙ ap (λ l. take (length xs) l) same ∙ ap (λ n. take n (ys ++ vs)) long ∙ take-append_seam ys vs

-- the longwords after the first five of a whole header are those of the file's hunks
header-words : (ws more words rest : List ℕ) (a b n c d : ℕ) → 4 * length ws ≡ header_length ws → a ∷ b ∷ n ∷ c ∷ d ∷ (words ++ rest) ≡ ws ++ more → length words ≡ n → drop 5 ws ≡ words
header-words [] more words rest a b n c d whole same count = absurd (omega arith)
header-words (w ∷ []) more words rest a b n c d whole same count = absurd (omega arith)
header-words (w ∷ v ∷ []) more words rest a b n c d whole same count = absurd (omega arith)
header-words (w ∷ v ∷ u ∷ []) more words rest a b n c d whole same count = absurd (omega arith)
header-words (w ∷ v ∷ u ∷ x ∷ []) more words rest a b n c d whole same count = absurd (omega arith)
header-words (w ∷ v ∷ u ∷ x ∷ y ∷ ws) more words rest a b n c d whole same count =
    let is : n ≡ u = ap (λ l. get_or l 2 0) same in
    let tail : words ++ rest ≡ ws ++ more = ap (λ l. drop 5 l) same in
    sym (same-front words ws rest more (omega (arith, whole, is, count)) tail)

-- The hunks of a header are those of every load file that begins with it.
pub header-of-file : (bytes more : List ℕ) (hunks : List HeaderHunk) (file : List FileHunk) → IsHeader bytes hunks → IsLoadOf file (bytes ++ more) → hunks ≡ map told_of file
header-of-file bytes more hunks file header load =
    let t : LoadTree = load.is_load.tree in
    let ts : List LoadHunkTree = t.first ∷ t.others in
    let none = header-is-whole bytes header.whole in
    let whole : 4 * length (longwords bytes) ≡ header_length (longwords bytes) = omega (arith, length-longwords bytes, ap length none, header.whole) in
    let split : longwords (bytes ++ more) ≡ longwords bytes ++ longwords more = longwords-append bytes more ∙ ap (λ bs. longwords bytes ++ longwords (bs ++ more)) none in
    let same = sym (spelled t) ∙ load.is_load.is_file.spelled ∙ split in
    let words = header-words (longwords bytes) (longwords more) (map (λ t. type_longword t.memory_bits t.size) ts) _ _ _ _ _ _ whole same (length-words ts) in
    header.told
    ∙ ap (λ ws. map header_hunk ws) words
    ∙ sizes-told (length t.others) (2 ^ 24) [] ts (load_hunks (length t.others) ts []) load.is_load.is_file.fits.1.1.1.1.1
    ∙ sym (values-told (length t.others) ts)
    ∙ ap (λ hs. map told_of hs) load.is_load.value

-- ---- a header is no file

content-some : (last size : ℕ) (w : Within) (x : ContentTree) (blocks : List BlockTree) (end : ℕ) (rest : List Field) → 0 < length (longwords_of (content_then (hunk_type last size) w x blocks end rest))
content-some last size w (code_tree b c ws) blocks end rest = omega arith
content-some last size w (data_tree b c ws) blocks end rest = omega arith
content-some last size w (bss_tree b c n) blocks end rest = omega arith

hunk-some : (last size : ℕ) (w : Within) (name : Option NameTree) (x : BodyTree) (rest : List Field) → 0 < length (longwords_of (hunk_at (hunk_type last size) w name x rest))
hunk-some last size w None x rest = content-some last size w x.content x.blocks x.end_bits rest
hunk-some last size w (Some name) x rest = omega arith

pub header-no-file : (bytes : List ℕ) → length bytes ≤ header_length (longwords bytes) → IsFile Load (longwords bytes) → ⊥
header-no-file bytes within file =
    let t : LoadTree = file.tree in
    let ts : List LoadHunkTree = t.first ∷ t.others in
    let behind = longwords_of (load_hunks (length t.others) ts []) in
    let some : 0 < length behind = hunk-some (length t.others) t.first.size (in_load (length t.others) t.first.size) t.first.hunk.name t.first.hunk.body _ in
    let is : longwords bytes ≡ _ = sym file.is_file.spelled ∙ spelled t in
    let long = ap length is in
    let told = ap header_length is in
    let words = length-append (map (λ t. type_longword t.memory_bits t.size) ts) behind in
    omega (arith, within, some, long, told, words, length-words ts, length-longwords bytes)
