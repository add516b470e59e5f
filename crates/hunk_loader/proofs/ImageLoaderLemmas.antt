-- What is known of a loader's builder at the end of a file.
use Rattle.std.proofs.Common.{◌≡◌, ◌≢◌, ℕ, List, [], ◌∷◌, length, map, Option, Some, None, Result, Ok, Err, refl, sym, ap, subst, ◌∙◌, arith}
use Rattle.hunk_words.specs.EventValue.{EventValue, value_of_events, initial_load}
use Rattle.hunk_words.specs.Decoder.{Finished as DecoderFinished}
use Rattle.hunk_words.specs.Event.{events}
use Rattle.hunk_words.specs.Spelling.{load_spelling, LoadFits}
use Rattle.hunk_words.specs.Trees.{LoadHunkTree, LoadTree}
use Rattle.hunk_words.specs.Values.{Hunk, Part, load_sizes, load_hunk_values}
use Rattle.hunk_words.specs.declared.event.FileKind.TheVariants.{Load}
use Rattle.hunk_base.specs.declared.fault.Refusal.{Refusal}
use Rattle.hunk_base.specs.declared.fault.Refusal.TheVariants as refusal_is
use Rattle.hunk_words.proofs.EventValueTreeLemmas.{load-told}
use Rattle.hunk_loadfile.specs.LoadFile.{load_hunk_value, load_value}
use Rattle.hunk_loadfile.specs.LoadHunk.{FileHunk}
use Rattle.hunk_loadfile.specs.Partial.{file_hunks}
use Rattle.hunk_loader.specs.ImageBuilder.{BuilderState, Loads, IsImage, StandsFor}
use Rattle.hunk_loadfile.specs.LoadFile.{IsLoadOf}
use Rattle.hunk_loader.specs.ImageLoader.{Finished}
use Rattle.hunk_loader.specs.Loading.{loaded}
use Rattle.hunk_loader.specs.Places.{Placed as ArePlaced, IsFirstRefusal}
use Rattle.hunk_loader.specs.Loading.{load_refusal, load_refusals}
use Rattle.hunk_loader.specs.Sizes.{sizes_of}
use Rattle.hunk_loader.specs.declared.loading.LoadRefusal.{LoadRefusal}
use Rattle.hunk_loader.specs.declared.loading.LoadRefusal.TheVariants.{File, Place, OutOfMemory}
use Rattle.hunk_loader.specs.declared.places.PlaceFault.{PlaceFault}
use Rattle.hunk_loader.specs.declared.placing.Placing.{Placing}
use Rattle.hunk_loader.specs.declared.placing.Placing.TheVariants.{Unknown, Placed, Refused}

-- ---- the value of a file

file_hunks-values : (last : ℕ) (ts : List LoadHunkTree) → file_hunks (map (λ t. (t.memory_bits, t.size)) ts) (load_hunk_values last ts) ≡ map (λ t. load_hunk_value last t) ts
file_hunks-values last [] = refl
file_hunks-values last (t ∷ ts) = ap (λ hs. load_hunk_value last t ∷ hs) (file_hunks-values last ts)

sizes_of-values : (last : ℕ) (ts : List LoadHunkTree) → map (λ (s : ℕ × ℕ). s.1) (map (λ t. (t.memory_bits, t.size)) ts) ≡ sizes_of (map (λ t. load_hunk_value last t) ts)
sizes_of-values last [] = refl
sizes_of-values last (t ∷ ts) = ap (λ ns. t.size ∷ ns) (sizes_of-values last ts)

-- ---- the builder of a file

-- what a builder holds of the file of these hunks
record HoldsFile (m : BuilderState) (hunks : List FileHunk) : Type 0 where
  pub sizes : m.sizes ≡ sizes_of hunks
  pub decided : m.placing ≢ Unknown
  pub placed : m.placing ≡ Placed → ArePlaced m.sizes m.bases × (m.made ≡ loaded hunks m.bases)
  pub refused : (fault : PlaceFault) → m.placing ≡ Refused fault → IsFirstRefusal m.sizes m.bases fault

only-part : (p q : Part) → p ∷ [] ≡ q ∷ [] → p ≡ q
only-part p q is = ap (λ ps. first ps) is
  where
    first : List Part → Part
    first [] = p
    first (r ∷ rs) = r

loads-known : (p : Placing) (m : BuilderState) (b : EventValue) (hs : List Hunk) → length hs ≡ m.ended → (length hs ≡ 0 → ⊥) → Loads p m b hs → p ≢ Unknown
loads-known Unknown m b hs count some l = λ is. some (count ∙ l.ended)
loads-known Placed m b hs count some l = λ is. let wrong : Placed ≡ Unknown = is in cc
loads-known (Refused fault) m b hs count some l = λ is. let wrong : Refused fault ≡ Unknown = is in cc

loads-placed : (p : Placing) (m : BuilderState) (b : EventValue) (hs : List Hunk) → p ≡ Placed → Loads p m b hs → ArePlaced m.sizes m.bases × (m.made ≡ loaded (file_hunks b.sizes hs) m.bases)
loads-placed Unknown m b hs is l = cc
loads-placed Placed m b hs is l = l
loads-placed (Refused fault) m b hs is l = cc

loads-refused : (p : Placing) (m : BuilderState) (b : EventValue) (hs : List Hunk) (fault : PlaceFault) → p ≡ Refused fault → Loads p m b hs → IsFirstRefusal m.sizes m.bases fault
loads-refused Unknown m b hs fault is l = cc
loads-refused Placed m b hs fault is l = cc
loads-refused (Refused other) m b hs fault is l = let same : other ≡ fault = cc in subst (IsFirstRefusal m.sizes m.bases) same l.0

holds-file : (m : BuilderState) (t : LoadTree) → LoadFits t → StandsFor m (events (load_spelling t)) → HoldsFile m (load_value t)
holds-file m t fits h =
    let ts : List LoadHunkTree = t.first ∷ t.others in
    let last : ℕ = length t.others in
    let told = load-told t fits in
    let b : EventValue = value_of_events initial_load (events (load_spelling t)) in
    let part : h.part ≡ record { name = []; hunks = load_hunk_values last ts } = only-part h.part (record { name = []; hunks = load_hunk_values last ts }) (sym h.parts ∙ told.1) in
    let hunks : h.part.hunks ≡ load_hunk_values last ts = ap (λ p. p.hunks) part in
    let file : file_hunks b.sizes h.part.hunks ≡ load_value t = ap (λ ss. file_hunks ss h.part.hunks) told.0 ∙ ap (λ hs. file_hunks (load_sizes t) hs) hunks ∙ file_hunks-values last ts in
    record {
      sizes = h.sizes ∙ sym h.header ∙ ap (λ ss. map (λ (s : ℕ × ℕ). s.1) ss) told.0 ∙ sizes_of-values last ts;
      decided = loads-known m.placing m b h.part.hunks (h.counted ∙ sym h.ended) (λ none. let wrong : length (load_hunk_values last ts) ≡ 0 = sym (ap length hunks) ∙ none in absurd (omega (arith, wrong))) h.loads;
      placed = λ is. let l = loads-placed m.placing m b h.part.hunks is h.loads in (l.0, l.1 ∙ ap (λ hs. loaded hs m.bases) file);
      refused = λ fault is. loads-refused m.placing m b h.part.hunks fault is h.loads;
    }

-- ---- the result at the end

placing-known : (p : Placing) → p ≢ Unknown → ((fault : PlaceFault) → p ≢ Refused fault) → p ≡ Placed
placing-known Unknown known not_refused = absurd (known refl)
placing-known Placed known not_refused = refl
placing-known (Refused fault) known not_refused = absurd (not_refused fault refl)

file-of : (m : BuilderState) (bytes : List ℕ) → (d : DecoderFinished Load StandsFor bytes (Ok m)) → IsLoadOf (load_value d.1.tree) bytes
file-of m bytes d = record { whole = d.0; is_load = record { tree = d.1.tree; is_file = d.1.is_file; value = refl } }

-- for a whole file: its image, or what is wrong with the bases
pub Finished-image : (m : BuilderState) (bytes : List ℕ) (answer : Result (List (ℕ × List ℕ)) LoadRefusal) → DecoderFinished Load StandsFor bytes (Ok m) → IsImage m answer → Finished m.bases bytes answer
Finished-image m bytes (Ok image) d is =
    let f = holds-file m d.1.tree d.1.is_file.fits d.1.stands in
    let p = f.placed (placing-known m.placing f.decided is.0) in
    record {
      hunks = load_value d.1.tree;
      is_file = file-of m bytes d;
      placed = subst (λ ss. ArePlaced ss m.bases) f.sizes p.0;
      image_is = is.1 ∙ p.1;
    }
Finished-image m bytes (Err (Place fault)) d is =
    let f = holds-file m d.1.tree d.1.is_file.fits d.1.stands in
    record {
      hunks = load_value d.1.tree;
      is_file = file-of m bytes d;
      first = subst (λ ss. IsFirstRefusal ss m.bases fault) f.sizes (f.refused fault is);
    }
Finished-image m bytes (Err (File fault)) d is = elim is [ ]
Finished-image m bytes (Err OutOfMemory) d is = elim is [ ]

-- otherwise the refusal of the bytes
pub Finished-refusal : (bases bytes : List ℕ) (refusal : Refusal) → DecoderFinished Load StandsFor bytes (Err refusal) → Finished bases bytes (Err (load_refusal refusal))
Finished-refusal bases bytes (refusal_is.Fault fault) d = d
Finished-refusal bases bytes refusal_is.OutOfMemory d = tt

-- ---- an error that is kept

pub again-ok : {T : Type 0} (o : Option Refusal) (answer : Result T Refusal) (t : T) → answer ≡ Ok t → ((r : Refusal) → o ≡ Some r → answer ≡ Err r) → (e : LoadRefusal) → load_refusals o ≡ Some e → ⊥
again-ok None answer t ok again e is = let wrong : None ≡ Some e = is in cc
again-ok (Some r) answer t ok again e is = let wrong : Ok t ≡ Err r = sym ok ∙ again r refl in cc

pub again-err : {T : Type 0} (o : Option Refusal) (answer : Result T Refusal) (r : Refusal) → answer ≡ Err r → ((s : Refusal) → o ≡ Some s → answer ≡ Err s) → (e : LoadRefusal) → load_refusals o ≡ Some e → load_refusal r ≡ e
again-err None answer r err again e is = let wrong : None ≡ Some e = is in cc
again-err {T = T} (Some s) answer r err again e is =
    let both : Err r ≡ Err s = sym err ∙ again s refl in
    let same : r ≡ s = cc in
    let kept : load_refusal s ≡ e = cc in
    ap load_refusal same ∙ kept
