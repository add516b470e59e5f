-- What a fault says of what was read and written, and what is known of the image of a load file.
use Rattle.std.proofs.Common.{◌≡◌, ℕ, suc, ◌+◌, ◌*◌, ◌^◌, ◌<◌, ◌≤◌, nat_le, ◌&&◌, List, [], ◌∷◌, length, slice_index, Option, Bool, IsTrue, refl, sym, ap, subst, arith}
use Rattle.std.specs.Io.KnownBytes.{Appends}
use Rattle.std.specs.List.{All, zip}
use Rattle.std.specs.Prelude.{Vec}
use Rattle.std.proofs.KnownBytes.{Keeps-refl}
use Rattle.std.proofs.lemmas.Bool.{and_parts, leb-true}
use Rattle.std.proofs.lemmas.List.{length-map}
use Rattle.std.proofs.lemmas.List.Elements.{All-cons, All-nil}
use Rattle.std.proofs.lemmas.Slice.Zip.{length-zip}
use Rattle.hunk_base.specs.Streams.{HasRead, IsDevice, TookFront, WriteStopped}
use Rattle.hunk_base.specs.declared.fault.Reason.TheVariants.{HunkTable}
use Rattle.hunk_base.specs.declared.fault.WriteFault.{WriteFault}
use Rattle.hunk_base.specs.declared.fault.WriteFault.TheVariants as write_fault
use Rattle.hunk_words.proofs.FaultTableLemmas.{reject_unless-none}
use Rattle.hunk_base.proofs.StreamsLemmas.{HasRead-weaker}
use Rattle.hunk_loadfile.specs.LoadFile.{load_hunk_value}
use Rattle.hunk_loadfile.specs.LoadHunk.{FileHunk}
use Rattle.hunk_loadfile.proofs.PatchingLemmas.{length-patched_bytes}
use Rattle.hunk_loader.specs.Image.{hunks_of}
use Rattle.hunk_loadfile.specs.LoadFile.{IsLoadOf}
use Rattle.hunk_loader.specs.ImageLoader.{LoadsAs}
use Rattle.hunk_loader.specs.ImageReader.{IsImageFault}
use Rattle.hunk_loader.specs.Loading.{loaded_bytes}
use Rattle.hunk_loader.specs.Places.{Placed}
use Rattle.hunk_loader.specs.Sizes.{sizes_of}
use Rattle.hunk_loader.specs.declared.image_reader.ImageFault.{ImageFault}
use Rattle.hunk_loader.specs.declared.image_reader.ImageFault.TheVariants as image_fault
use Rattle.hunk_loader.specs.declared.loading.LoadRefusal.TheVariants as load_refusal
use Rattle.hunk_loader.proofs.LoadingLemmas.{loaded_from}
use Rattle.hunk_tool.specs.Load.{IsCutShortAt, IsFaultAt, IsWrittenAt, ends_of, loaded_text}
use Rattle.hunk_image_text.specs.ImageText.{EndsInside, image_text}
use Rattle.hunk_image_text.specs.declared.image_form.ImageForm.{ImageForm}
use Rattle.hunk_tool.specs.ToolFault.{tool_fault_of_image, tool_fault_of_write}
use Rattle.hunk_image_text.proofs.ImageTextLemmas.{length-hunks_of}

-- ---- what was read

-- If the file was not placed, nothing was written.
pub IsFaultAt-read : (A : Type 0) (text : List FileHunk → List ℕ → List ℕ) (bases : List ℕ) (left left_then : Option (List ℕ)) (failed ended : Bool) (taken : Option (List ℕ)) (write_failed : Bool) (fault : ImageFault)
    → IsImageFault bases left left_then failed ended fault → IsFaultAt {A = A} text bases (ends_of left left_then failed ended taken taken write_failed) (tool_fault_of_image fault)
IsFaultAt-read A text bases left left_then failed ended taken write_failed (image_fault.Refused (load_refusal.File fault)) is = (refl, is, Keeps-refl taken)
IsFaultAt-read A text bases left left_then failed ended taken write_failed (image_fault.Refused (load_refusal.Place fault)) is = (is.0, is.1, Keeps-refl taken)
IsFaultAt-read A text bases left left_then failed ended taken write_failed (image_fault.Refused load_refusal.OutOfMemory) is = (refl, Keeps-refl taken)
IsFaultAt-read A text bases left left_then failed ended taken write_failed image_fault.Device is = (refl, is, Keeps-refl taken)

-- ---- what was written

-- The bytes are a load file whose hunks are placed at the bases, and this is the text of them.
pub record HasTextAt (text : List FileHunk → List ℕ → List ℕ) (bases told bytes : List ℕ) : Type 0 where
  pub hunks : List FileHunk
  pub is_file : IsLoadOf hunks bytes
  pub placed : Placed (sizes_of hunks) bases
  pub is_text : told ≡ text hunks bases

-- Where the file was placed, and writing its text stopped.
pub IsFaultAt-written : (A : Type 0) {W : Type 0} (taken : W → Option (List ℕ)) (failed : W → Bool) (old new : W) (text : List FileHunk → List ℕ → List ℕ) (bases told : List ℕ) (left left_then : Option (List ℕ)) (read_failed ended : Bool) (fault : WriteFault)
    → IsTrue ended → HasRead left left_then (HasTextAt text bases told) → IsDevice fault → WriteStopped taken failed old new told fault
    → IsFaultAt {A = A} text bases (ends_of left left_then read_failed ended (taken old) (taken new) (failed new)) (tool_fault_of_write fault)
IsFaultAt-written A taken failed old new text bases told left left_then read_failed ended (write_fault.Device written) at_end read device stopped = (
  at_end,
  HasRead-weaker left left_then _ (IsCutShortAt text bases (taken old) (taken new) written) (λ bytes has. record {
    hunks = has.hunks;
    is_file = has.is_file;
    placed = has.placed;
    front = subst (λ t. TookFront (taken old) (taken new) t written) has.is_text stopped.0;
  }) read,
  stopped.1,
)
IsFaultAt-written A taken failed old new text bases told left left_then read_failed ended (write_fault.OutOfMemory written) at_end read device stopped = absurd device

-- The text that was written is that of the file.
pub IsWrittenAt-of : (text : List FileHunk → List ℕ → List ℕ) (bases told : List ℕ) (left left_then old new : Option (List ℕ)) → HasRead left left_then (HasTextAt text bases told)
    → Appends old new told → HasRead left left_then (IsWrittenAt text bases old new)
IsWrittenAt-of text bases told left left_then old new read written =
    HasRead-weaker left left_then _ (IsWrittenAt text bases old new) (λ bytes has. record {
      hunks = has.hunks;
      is_file = has.is_file;
      placed = has.placed;
      written = subst (Appends old new) has.is_text written;
    }) read

-- ---- the image

-- An image that was loaded has the text of its file.
pub HasTextAt-loaded : (form : ImageForm) (bases : List ℕ) (image : List (ℕ × List ℕ)) (left left_then : Option (List ℕ)) → HasRead left left_then (λ bytes. LoadsAs bases bytes image)
    → HasRead left left_then (HasTextAt (loaded_text form) bases (image_text form image))
HasTextAt-loaded form bases image left left_then read =
    HasRead-weaker left left_then _ (HasTextAt (loaded_text form) bases (image_text form image)) (λ bytes loads. record {
      hunks = loads.hunks;
      is_file = loads.is_file;
      placed = loads.placed;
      is_text = ap (image_text form) loads.image_is;
    }) read

-- A header has at most 65,535 hunks.
few-hunks : (hunks : List FileHunk) (bytes : List ℕ) → IsLoadOf hunks bytes → length hunks ≤ 65535
few-hunks hunks bytes file =
    let t = file.is_load.tree in
    let count : ℕ = suc (length t.others) in
    let told = reject_unless-none (nat_le 1 count && nat_le count 65535) HunkTable file.is_load.is_file.fits.1.1.0.passes in
    let most : count ≤ 65535 = leb-true count 65535 (and_parts (nat_le 1 count) (nat_le count 65535) told).1 in
    omega (arith, most, ap length file.is_load.value, length-map (t.first ∷ t.others) (λ h. load_hunk_value (length t.others) h))

-- So an image has fewer than 2 ^ 16 hunks.
pub few-loaded : {A : Type 0} (bases bytes : List ℕ) (hunks : List (ℕ × Vec ℕ A)) (image : List (ℕ × List ℕ)) → hunks_of hunks ≡ image → LoadsAs bases bytes image → length hunks < 2 ^ 16
few-loaded bases bytes hunks image are loads =
    let place : ℕ × FileHunk → ℕ × List ℕ = λ placed. (placed.0, loaded_bytes bases placed.1) in
    omega (
      arith,
      length-hunks_of hunks,
      ap length are,
      ap length loads.image_is,
      length-map (zip bases loads.hunks) place,
      length-zip bases loads.hunks,
      few-hunks loads.hunks bytes loads.is_file,
    )

-- The remaining hunks end within the addresses if each of them does.
pub ends-loaded_from : (all bases : List ℕ) (hunks : List FileHunk) → ((k : ℕ) → k < length bases → slice_index bases k + 4 * slice_index (sizes_of hunks) k ≤ 2 ^ 32) → All EndsInside (loaded_from all bases hunks)
ends-loaded_from all [] hunks ends = All-nil EndsInside
ends-loaded_from all (base ∷ bases) [] ends = All-nil EndsInside
ends-loaded_from all (base ∷ bases) (hunk ∷ hunks) ends =
    let size : length (loaded_bytes all hunk) ≡ 4 * hunk.size = length-patched_bytes (4 * hunk.size) hunk.content hunk.sites.entries (slice_index all) in
    let here : base + 4 * hunk.size ≤ 2 ^ 32 = ends 0 (omega arith) in
    All-cons EndsInside (base, loaded_bytes all hunk) (loaded_from all bases hunks) (omega (arith, size, here)) (ends-loaded_from all bases hunks (λ k within. ends (suc k) (omega (arith, within))))

pub ends-loaded : (bases bytes : List ℕ) (image : List (ℕ × List ℕ)) → LoadsAs bases bytes image → All EndsInside image
ends-loaded bases bytes image loads = subst (All EndsInside) (sym loads.image_is) (ends-loaded_from bases bases loads.hunks loads.placed.ends_within)
