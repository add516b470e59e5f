-- The site limit from the events is that of each kind that is expected.
use Rattle.std.proofs.Common.{◌≡◌, ℕ, zero, suc, ◌*◌, List, [], ◌∷◌, ◌++◌, length, Bool, true, false, Option, Some, None, slice_index, get_or, append_assoc, length-append, refl, ap, sym, subst, ◌∙◌, arith, rules}
use Rattle.std.proofs.Math.Seq.{get_or-append_seam}
use Rattle.hunk_words.specs.Kinds.{Within, Kind, Field, low, bits, type_of, entry_of, entry_length, flip, site_limit}
use Rattle.hunk_words.specs.FaultTable.{judged, reject_unless, and_then, is_content, begins_in_load, may_follow, refused_type, knows_short, memory_judged}
use Rattle.hunk_words.specs.Kinds.Within.{in_unit, in_load}
use Rattle.hunk_words.specs.Kinds.Kind.{object_start, load_start, unit_type, hunk_type, content_type, block_type, past_end, unit_length, name_length, word, value, content_size, reloc_count, hunk_number, offset, debug_length, ext_entry, ref_count, ref_offset, symbol_entry, resident, table_size, first_hunk, last_hunk, header_size, short_count, short_hunk, short_offset, short_pad}
use Rattle.hunk_words.specs.SiteRules.{limit_of}
use Rattle.hunk_words.specs.Machine.{due, times, short_times, reverse_onto, hunks_due, unit_part, hunk_part, block_part, content_part, entry_part, push, Takes}
use Rattle.hunk_words.specs.Event.{at_end, event_at, event_of, events}
use Rattle.hunk_words.specs.Kinds.{hunk_kind_number}
use Rattle.hunk_words.specs.SiteContext.{SiteContext, HunkPosition, content_limit, position_after, context_after}
use Rattle.hunk_words.specs.declared.event.FileKind.{FileKind}
use Rattle.hunk_words.specs.declared.event.FileKind.TheVariants.{Object, Load}
use Rattle.hunk_words.specs.declared.event.Event.TheVariants.{Content, HunkEnd}
use Rattle.hunk_base.specs.declared.fault.Reason.{Reason}
use Rattle.hunk_words.specs.declared.kinds.Half.{Half}
use Rattle.hunk_words.specs.declared.kinds.Half.TheVariants.{Upper as upper, Lower as lower}
use Rattle.hunk_words.specs.declared.kinds.HunkKind.{HunkKind}
use Rattle.hunk_words.specs.declared.kinds.HunkKind.TheVariants.{Code, Data, Bss}
use Rattle.hunk_words.specs.declared.kinds.BlockType.{BlockType}
use Rattle.hunk_words.specs.declared.kinds.BlockType.TheVariants.{Unit as unit, Name as name, Content as content, Reloc as reloc, Ext as ext, Symbol as symbol, Debug as debug, End as end, Header as header, Short as short, Unsupported as unsupported, Unknown as unknown}
use Rattle.hunk_words.specs.declared.kinds.EntryType.{EntryType}
use Rattle.hunk_words.specs.declared.kinds.EntryType.TheVariants.{Definition as definition, Absolute as absolute, Reference as reference, Other as other_entry}
use Rattle.hunk_words.proofs.SiteContextSeenLemmas.{position_with, context_with_event, context_after-with}

-- ---- what events say about what is expected

abbrev pub IsObject : FileKind → Type 0
IsObject Object = Unit {0}
IsObject Load = ⊥

abbrev pub IsLoad : FileKind → Type 0
IsLoad Object = ⊥
IsLoad Load = Unit {0}

-- hunk i is within this, with its size in a load file's header
abbrev pub IsIn : FileKind → List ℕ → ℕ → Within → Type 0
IsIn file sizes i in_unit = IsObject file
IsIn file sizes i (in_load last size) = IsLoad file × (size ≡ slice_index sizes i)

-- what is expected after the current hunk, from hunk i on
abbrev pub Later : FileKind → List ℕ → ℕ → List Kind → Type 0
Later file sizes i [] = Unit {0}
Later file sizes i (hunk_type last size ∷ s) = IsIn file sizes i (in_load last size) × Later file sizes (suc i) s
Later file sizes i (unit_type ∷ s) = IsObject file × (s ≡ [])
Later file sizes i (_ ∷ s) = ⊥

-- a header, with these sizes read
abbrev pub InHeader : FileKind → HunkPosition → List ℕ → List Kind → Type 0
InHeader file v sizes s = IsLoad file × (v.sizes ≡ sizes) × (v.ended ≡ 0) × (s ≡ [])

-- what is expected now
abbrev pub Now : FileKind → HunkPosition → List Kind → Type 0
Now file v [] = Unit {0}
Now file v (object_start ∷ s) = IsObject file × (s ≡ [])
Now file v (unit_type ∷ s) = IsObject file × (s ≡ [])
Now file v (hunk_type last size ∷ s) = IsIn file v.sizes v.ended (in_load last size) × Later file v.sizes (suc v.ended) s
Now file v (content_type w ∷ s) = IsIn file v.sizes v.ended w × Later file v.sizes (suc v.ended) s
Now file v (content_size w c b ∷ s) = IsIn file v.sizes v.ended w × Later file v.sizes (suc v.ended) s
Now file v (block_type w limit ∷ s) = (limit ≡ v.limit) × Later file v.sizes (suc v.ended) s
Now file v (reloc_count w limit ∷ s) = (limit ≡ v.limit) × Now file v s
Now file v (hunk_number w limit more ∷ s) = (limit ≡ v.limit) × Now file v s
Now file v (offset limit target ∷ s) = (limit ≡ v.limit) × Now file v s
Now file v (ext_entry limit ∷ s) = (limit ≡ v.limit) × Now file v s
Now file v (ref_count limit ∷ s) = (limit ≡ v.limit) × Now file v s
Now file v (ref_offset limit ∷ s) = (limit ≡ v.limit) × Now file v s
Now file v (short_count h last limit ∷ s) = (limit ≡ v.limit) × Now file v s
Now file v (short_hunk h last limit more ∷ s) = (limit ≡ v.limit) × Now file v s
Now file v (short_offset h limit target ∷ s) = (limit ≡ v.limit) × Now file v s
Now file v (load_start ∷ s) = InHeader file v [] s
Now file v (table_size ∷ s) = InHeader file v [] s
Now file v (header_size last room left sizes ∷ s) = InHeader file v (reverse_onto sizes []) s
Now file v (_ ∷ s) = Now file v s

later-now : (file : FileKind) (v : HunkPosition) (s : List Kind) → Later file v.sizes v.ended s → Now file v s
later-now file v [] h = h
later-now file v (hunk_type last size ∷ s) h = h
later-now file v (unit_type ∷ s) h = h
later-now file v (_ ∷ s) h = absurd h

now-empty : (file : FileKind) (v : HunkPosition) (s : List Kind) → s ≡ [] → Now file v s
now-empty file v s h = subst (λ q. Now file v q) (sym h) tt

now-words : (file : FileKind) (v : HunkPosition) (n : ℕ) (s : List Kind) → Now file v s → Now file v (times n word s)
now-words file v zero s h = h
now-words file v (suc n) s h = now-words file v n s h

now-offsets : (file : FileKind) (v : HunkPosition) (limit target n : ℕ) (s : List Kind) → limit ≡ v.limit → Now file v s → Now file v (times n (offset limit target) s)
now-offsets file v limit target zero s is h = h
now-offsets file v limit target (suc n) s is h = (is, now-offsets file v limit target n s is h)

now-ref-offsets : (file : FileKind) (v : HunkPosition) (limit n : ℕ) (s : List Kind) → limit ≡ v.limit → Now file v s → Now file v (times n (ref_offset limit) s)
now-ref-offsets file v limit zero s is h = h
now-ref-offsets file v limit (suc n) s is h = (is, now-ref-offsets file v limit n s is h)

now-short : (file : FileKind) (v : HunkPosition) (half : Half) (limit target n : ℕ) (s : List Kind) → limit ≡ v.limit → Now file v s → Now file v (short_times n half limit target s)
now-short file v half limit target zero s is h = h
now-short file v half limit target (suc n) s is h = (is, now-short file v (flip half) limit target n s is h)

hunks-later : (file : FileKind) (last : ℕ) (sizes front tail : List ℕ) (i : ℕ) → IsLoad file → sizes ≡ front ++ tail → length front ≡ i → Later file sizes i (hunks_due last tail [])
hunks-later file last sizes front [] i is parts len = tt
hunks-later file last sizes front (x ∷ tail) i is parts len = (
  (is, sym (ap (λ q. get_or q i 0) parts ∙ ap (λ q. get_or (front ++ (x ∷ tail)) q 0) (sym len) ∙ get_or-append_seam front x tail 0)),
  hunks-later file last sizes (front ++ (x ∷ [])) tail (suc i) is (parts ∙ sym (append_assoc front (x ∷ []) tail)) (simp length-append (omega (arith, len))),
)

reverse_onto-append : (xs ys zs : List ℕ) → reverse_onto xs ys ++ zs ≡ reverse_onto xs (ys ++ zs)
reverse_onto-append [] ys zs = refl
reverse_onto-append (x ∷ xs) ys zs = reverse_onto-append xs (x ∷ ys) zs

-- ---- one more field

reject_unless-true : (b : Bool) (r : Reason) → reject_unless b r ≡ None → b ≡ true
reject_unless-true true r h = refl
reject_unless-true false r h = search rules

and_then-first : (x y : Option Reason) → and_then x y ≡ None → x ≡ None
and_then-first None y h = refl
and_then-first (Some r) y h = h

content-passes : (w : Within) (n : ℕ) → judged (content_type w) n ≡ None → is_content (type_of (low n)) ≡ true
content-passes in_unit n h = reject_unless-true _ (refused_type false (type_of (low n)) (low n)) (and_then-first _ (memory_judged (type_of (low n)) n) h)
content-passes (in_load last size) n h = reject_unless-true _ (refused_type true (type_of (low n)) (low n)) h

now-unit : (file : FileKind) (v : HunkPosition) (y : BlockType) (b : ℕ) (s : List Kind) → IsObject file × (s ≡ []) → Now file v (unit_part y b s)
now-unit file v unit b s h = h
now-unit file v name b s h = (h.0, h)
now-unit file v (content c) b s h = (h.0, h)
now-unit file v _ b s h = now-empty file v s h.1

now-hunk : (file : FileKind) (v : HunkPosition) (w : Within) (y : BlockType) (b : ℕ) (s : List Kind)
    → begins_in_load y ≡ true → IsIn file v.sizes v.ended w × Later file v.sizes (suc v.ended) s → Now file v (hunk_part w y b s)
now-hunk file v w name b s p h = h
now-hunk file v w (content c) b s p h = h
now-hunk file v w _ b s p h = search rules

content-begins : (y : BlockType) → is_content y ≡ true → begins_in_load y ≡ true
content-begins (content c) h = refl
content-begins _ h = search rules

now-block : (file : FileKind) (v : HunkPosition) (w : Within) (limit : ℕ) (y : BlockType) (s : List Kind)
    → may_follow w y ≡ true → (limit ≡ v.limit) × Later file v.sizes (suc v.ended) s → Now file (position_with file v (at_end y)) (block_part w limit y s)
now-block file v w limit reloc s p h = (h.0, h)
now-block file v w limit symbol s p h = h
now-block file v w limit debug s p h = h
now-block file v w limit end s p h = later-now file (position_after file v HunkEnd) s h.1
now-block file v in_unit limit ext s p h = (h.0, h)
now-block file v (in_load last size) limit ext s p h = search rules
now-block file v in_unit limit short s p h = search rules
now-block file v (in_load last size) limit short s p h = (h.0, h)
now-block file v w limit unit s p h = search rules
now-block file v w limit name s p h = search rules
now-block file v w limit (content c) s p h = search rules
now-block file v w limit header s p h = search rules
now-block file v w limit unsupported s p h = search rules
now-block file v w limit unknown s p h = search rules

content_limit-site : (file : FileKind) (sizes : List ℕ) (i : ℕ) (w : Within) (n : ℕ) → IsIn file sizes i w → site_limit w n ≡ content_limit file (slice_index sizes i) Code n
content_limit-site Object sizes i in_unit n h = refl
content_limit-site Load sizes i in_unit n h = absurd h
content_limit-site Object sizes i (in_load last size) n h = absurd h.0
content_limit-site Load sizes i (in_load last size) n h = ap (λ x. 4 * x) h.1

content_limit-none : (file : FileKind) (sizes : List ℕ) (i : ℕ) (w : Within) (n : ℕ) → IsIn file sizes i w → site_limit w 0 ≡ content_limit file (slice_index sizes i) Bss n
content_limit-none Object sizes i in_unit n h = refl
content_limit-none Load sizes i in_unit n h = absurd h
content_limit-none Object sizes i (in_load last size) n h = absurd h.0
content_limit-none Load sizes i (in_load last size) n h = ap (λ x. 4 * x) h.1

content_limit-data : (file : FileKind) (x n : ℕ) → content_limit file x Code n ≡ content_limit file x Data n
content_limit-data Object x n = refl
content_limit-data Load x n = refl

now-content : (file : FileKind) (v : HunkPosition) (w : Within) (c : HunkKind) (b n : ℕ) (s : List Kind)
    → IsIn file v.sizes v.ended w × Later file v.sizes (suc v.ended) s → Now file (position_after file v (Content (hunk_kind_number c) b n)) (content_part w c n s)
now-content file v w Code b n s h = now-words file _ n _ (content_limit-site file v.sizes v.ended w n h.0, h.1)
now-content file v w Data b n s h = now-words file _ n _ (content_limit-site file v.sizes v.ended w n h.0 ∙ content_limit-data file (slice_index v.sizes v.ended) n, h.1)
now-content file v w Bss b n s h = (content_limit-none file v.sizes v.ended w n h.0, h.1)

now-entry : (file : FileKind) (v : HunkPosition) (limit : ℕ) (y : EntryType) (n : ℕ) (s : List Kind) → limit ≡ v.limit → Now file v s → Now file v (entry_part limit y n s)
now-entry file v limit definition n s is h = now-words file v n _ (is, h)
now-entry file v limit absolute n s is h = now-words file v n _ (is, h)
now-entry file v limit reference n s is h = now-words file v n _ (is, (is, h))
now-entry file v limit other_entry n s is h = now-words file v n _ (is, h)

now-first : (file : FileKind) (v : HunkPosition) (last : ℕ) (sizes : List ℕ) (s : List Kind) → IsLoad file → v.sizes ≡ sizes → v.ended ≡ 0 → s ≡ [] → Now file v (hunks_due last sizes s)
now-first file v last sizes s is read ended none =
    subst (λ q. Now file v (hunks_due last sizes q)) (sym none)
    (later-now file v (hunks_due last sizes []) (hunks-later file last v.sizes [] sizes v.ended is read (sym ended)))

pub now-push : (file : FileKind) (v : HunkPosition) (k : Kind) (n : ℕ) (s : List Kind)
    → judged k n ≡ None → Now file v (k ∷ s) → Now file (position_with file v (event_at k n)) (push k n s)
now-push file v object_start n s p h = h
now-push file v load_start n s p h = h
now-push file v unit_type n s p h = now-unit file v (type_of (low n)) (bits n) s h
now-push file v (hunk_type last size) n s p h = now-hunk file v (in_load last size) (type_of (low n)) (bits n) s (reject_unless-true _ (refused_type true (type_of (low n)) (low n)) p) h
now-push file v (content_type w) n s p h = now-hunk file v w (type_of (low n)) (bits n) s (content-begins _ (content-passes w n p)) h
now-push file v (block_type w limit) n s p h = now-block file v w limit (type_of (low n)) s (reject_unless-true _ (refused_type (knows_short w) (type_of (low n)) (low n)) p) h
now-push file v past_end n s p h = h
now-push file v unit_length n s p h = now-words file v n s h
now-push file v name_length n s p h = now-words file v n s h
now-push file v word n s p h = h
now-push file v value n s p h = h
now-push file v (content_size w c b) n s p h = now-content file v w c b (low n) s h
now-push file v (reloc_count w limit) zero s p h = h.1
now-push file v (reloc_count w limit) (suc n) s p h = (h.0, h)
now-push file v (hunk_number w limit more) n s p h = (h.0, now-offsets file v limit n more s h.0 h.1)
now-push file v (offset limit target) n s p h = h.1
now-push file v debug_length n s p h = now-words file v n s h
now-push file v (ext_entry limit) zero s p h = h.1
now-push file v (ext_entry limit) (suc n) s p h = now-entry file v limit (entry_of (suc n)) (entry_length (suc n)) s h.0 h.1
now-push file v (ref_count limit) n s p h = now-ref-offsets file v limit n s h.0 h.1
now-push file v (ref_offset limit) n s p h = h.1
now-push file v symbol_entry zero s p h = h
now-push file v symbol_entry (suc n) s p h = now-words file v n _ h
now-push file v resident n s p h = h
now-push file v table_size n s p h = h
now-push file v first_hunk n s p h = h
now-push file v (last_hunk last) n s p h = h
now-push file v (header_size last room zero sizes) n s p h =
    now-first file _ last (reverse_onto sizes (low n ∷ [])) s h.0 (ap (λ x. x ++ (low n ∷ [])) h.1 ∙ reverse_onto-append sizes [] (low n ∷ [])) h.2 h.3
now-push file v (header_size last room (suc left) sizes) n s p h =
    (h.0, ap (λ x. x ++ (low n ∷ [])) h.1 ∙ reverse_onto-append sizes [] (low n ∷ []), h.2, h.3)
now-push file v (short_count upper last limit) zero s p h = h.1
now-push file v (short_count lower last limit) zero s p h = h.1
now-push file v (short_count upper last limit) (suc n) s p h = (h.0, (h.0, h.1))
now-push file v (short_count lower last limit) (suc n) s p h = (h.0, (h.0, h.1))
now-push file v (short_hunk half last limit more) n s p h = now-short file v (flip half) limit n (suc more) s h.0 h.1
now-push file v (short_offset half limit target) n s p h = h.1
now-push file v short_pad n s p h = h

-- ---- all fields

pub now-taken : (file : FileKind) (v : SiteContext) (fs : List Field) (s e : List Kind) → Now file v.position s → Takes s fs e → Now file (context_after file v (events fs)).position e
now-taken file v [] s e h t = subst (λ q. Now file v.position q) t h
now-taken file v (f ∷ fs) [] e h t = absurd t
now-taken file v (f ∷ fs) (k ∷ s) e h t =
    subst (λ q. Now file q.position e) (sym (context_after-with file v (event_of f) (events fs)))
    (now-taken file (context_with_event file v (event_of f)) fs (push k f.number s) e
    (subst (λ q. Now file (position_with file v.position (event_at q f.number)) (push k f.number s)) (sym t.0) (now-push file v.position k f.number s t.1.passes h)) t.2)

-- the limit of an offset that is expected
pub now-limit : (file : FileKind) (v : HunkPosition) (s : List Kind) (limit : ℕ) → Now file v s → limit_of (due s) ≡ Some limit → limit ≡ v.limit
now-limit file v [] limit h is = search rules
now-limit file v (offset l target ∷ s) limit h is = grind (arith, is, h.0)
now-limit file v (ref_offset l ∷ s) limit h is = grind (arith, is, h.0)
now-limit file v (short_offset half l target ∷ s) limit h is = grind (arith, is, h.0)
now-limit file v (_ ∷ s) limit h is = search rules
