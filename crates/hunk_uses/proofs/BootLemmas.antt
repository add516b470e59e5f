-- A program that is loaded while its file comes: what it stands for after more bytes, and what is told at the end.
use Rattle.std.proofs.Common.{◌≡◌, ℕ, ◌+◌, ◌-◌, ◌<◌, ◌^◌, List, ◌++◌, drop, length, take, Option, Some, None, Result, Ok, Err, Bool, inl, refl, sym, ap, subst, ◌∙◌}
use Rattle.hunk_base.specs.Longwords.{longwords, unfinished}
use Rattle.hunk_base.specs.declared.fault.ReadFault.{ReadFault}
use Rattle.hunk_base.specs.declared.fault.ReadFault.TheVariants as read_fault
use Rattle.hunk_base.specs.Streams.{ReadStopped}
use Rattle.hunk_base.proofs.StreamsLemmas.{HasRead-weaker}
use Rattle.hunk_base.specs.declared.fault.Refusal.{Refusal}
use Rattle.hunk_base.specs.declared.fault.Refusal.TheVariants as refusal_is
use Rattle.hunk_base.proofs.LongwordsLemmas.{longwords-append}
use Rattle.hunk_words.specs.Decoder.{RefusesBytes}
use Rattle.hunk_words.specs.declared.event.FileKind.TheVariants.{Load}
use Rattle.hunk_words.proofs.DecoderCoreLemmas.{OffendsAt-append}
use Rattle.hunk_words.proofs.DecoderLemmas.{StandsFor-bounded, append-tail}
use Rattle.hunk_loadfile.specs.LoadHunk.{FileHunk}
use Rattle.hunk_loadfile.specs.LoadFile.{IsLoadOf}
use Rattle.hunk_loader.specs.HeaderHunks.{HeaderRead, told_sizes}
use Rattle.hunk_loader.specs.HeaderLoader.{HasTaken, HeaderState}
use Rattle.hunk_loader.specs.ImageLoader.{Finished, StandsFor as LoaderStandsFor, refusal_of}
use Rattle.hunk_loader.specs.ImageBuilder.{StandsFor as BuilderStandsFor}
use Rattle.hunk_loader.specs.ImageReader.{image_fault}
use Rattle.hunk_loader.specs.Loading.{loaded, load_refusals}
use Rattle.hunk_loader.specs.Places.{IsFirstRefusal, Placed}
use Rattle.hunk_loader.specs.Sizes.{sizes_of}
use Rattle.hunk_loader.specs.declared.header_hunks.HeaderHunk.{HeaderHunk}
use Rattle.hunk_loader.specs.declared.image_loader.ImageLoader.{ImageLoader}
use Rattle.hunk_loader.specs.declared.loading.LoadRefusal.{LoadRefusal}
use Rattle.hunk_loader.specs.declared.loading.LoadRefusal.TheVariants.{File, Place, OutOfMemory}
use Rattle.hunk_loader.proofs.HeaderHunksLemmas.{header-of-file}
use Rattle.hunk_uses.specs.Boot.{FrontFed, IsBased, IsToldFrom, RefusesFed, StandsFor as BootStandsFor, Starts}
use Rattle.hunk_uses.specs.Emulator.{IsNotLoadedFrom, bases_from}
use Rattle.hunk_uses.specs.declared.boot.Boot.{Boot}
use Rattle.hunk_uses.specs.declared.boot.Front.{Front}
use Rattle.hunk_uses.proofs.MachineLemmas.{told_sizes-of}

-- ---- more bytes

-- bytes that are refused are refused with more behind them
pub refuses-more : (bytes more : List ℕ) (refusal : Refusal) → RefusesBytes Load bytes refusal → RefusesBytes Load (bytes ++ more) refusal
refuses-more bytes more (refusal_is.Fault fault) refuses =
    rw longwords-append (OffendsAt-append Load (longwords bytes) (longwords (unfinished bytes ++ more)) fault.place fault.reason refuses)
refuses-more bytes more refusal_is.OutOfMemory refuses = tt

-- ---- the header

-- The header is whole with this piece, and a loader at its bases took all bytes.
pub front-loaded : {A : Type 0} (first : ℕ) (front : Front) (loader : ImageLoader A) (kept bytes piece : List ℕ) (taken : ℕ) (old new : HeaderState) (hunks : List HeaderHunk)
    → old.bytes ≡ bytes → kept ≡ bytes ++ take taken piece → HasTaken piece taken old new → new.hunks ≡ Some hunks
    → Starts (bases_from first (told_sizes hunks)) (kept ++ take (length piece - taken) (drop taken piece)) (Ok loader)
    → FrontFed first front (bytes ++ piece) (Ok (Some loader))
front-loaded first front loader kept bytes piece taken old new hunks read kept_is has some starts =
    let rest = take (length piece - taken) (drop taken piece) in
    let whole : kept ++ rest ≡ bytes ++ piece = ap (λ bs. bs ++ rest) kept_is ∙ append-tail bytes piece taken has.within in
    let header : kept ≡ new.bytes = kept_is ∙ sym (has.bytes ∙ ap (λ bs. bs ++ take taken piece) read) in (
      subst (λ bs. LoaderStandsFor loader bs) whole starts.0,
      record {
        header = new.bytes;
        more = rest;
        parts = sym whole ∙ ap (λ bs. bs ++ rest) header;
        hunks = hunks;
        is_header = subst (λ told. HeaderRead new.bytes told) some has.header;
        bases_are = starts.1;
      },
    )

-- ---- the loader

none-kept : (o : Option Refusal) → load_refusals o ≡ None → o ≡ None
none-kept None none = refl
none-kept (Some refusal) none = let wrong = none in cc

pub loader-bounded : {A : Type 0} (loader : ImageLoader A) (bytes : List ℕ) → refusal_of loader ≡ None → LoaderStandsFor loader bytes → length bytes < 2 ^ 30 + 4
loader-bounded loader bytes none stands = StandsFor-bounded Load BuilderStandsFor loader.decoder bytes (none-kept _ none) stands

-- ---- reading

pub boot-stopped : (boot : Boot) (first : ℕ) (left left_then : Option (List ℕ)) (ended failed : Bool) (fault : ReadFault)
    → ReadStopped left left_then failed (BootStandsFor boot) (RefusesFed boot) fault → IsNotLoadedFrom first left left_then ended failed (image_fault fault)
boot-stopped boot first left left_then ended failed (read_fault.Refused (refusal_is.Fault fault)) stopped =
    inl (HasRead-weaker left left_then (BootStandsFor boot) _ (λ bytes stands. stopped.1 bytes stands) stopped.0)
boot-stopped boot first left left_then ended failed (read_fault.Refused refusal_is.OutOfMemory) stopped = tt
boot-stopped boot first left left_then ended failed read_fault.Device stopped = stopped

-- ---- the end

-- the bases are those of a file that begins with the header
bases-of-file : (first : ℕ) (bases bytes : List ℕ) (file : List FileHunk) → IsBased first bases bytes → IsLoadOf file bytes → bases ≡ bases_from first (sizes_of file)
bases-of-file first bases bytes file based load =
    let same = header-of-file based.header based.more based.hunks file based.is_header (subst (λ bs. IsLoadOf file bs) based.parts load) in
    based.bases_are ∙ ap (λ hs. bases_from first (told_sizes hs)) same ∙ ap (λ ns. bases_from first ns) (told_sizes-of file)

pub finished-from : (first : ℕ) (bases bytes : List ℕ) (result : Result (List (ℕ × List ℕ)) LoadRefusal) → IsBased first bases bytes → Finished bases bytes result → IsToldFrom first bytes result
finished-from first bases bytes (Ok image) based finished =
    let is = bases-of-file first bases bytes finished.hunks based finished.is_file in
    record {
      hunks = finished.hunks;
      is_file = finished.is_file;
      placed = subst (λ bs. Placed (sizes_of finished.hunks) bs) is finished.placed;
      image_is = finished.image_is ∙ ap (λ bs. loaded finished.hunks bs) is;
    }
finished-from first bases bytes (Err (File fault)) based finished = finished
finished-from first bases bytes (Err (Place fault)) based finished =
    let is = bases-of-file first bases bytes finished.hunks based finished.is_file in
    record {
      hunks = finished.hunks;
      is_file = finished.is_file;
      first_fault = subst (λ bs. IsFirstRefusal (sizes_of finished.hunks) bs fault) is finished.first;
    }
finished-from first bases bytes (Err OutOfMemory) based finished = tt
