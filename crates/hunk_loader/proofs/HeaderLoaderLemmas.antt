-- What a loader of a header knows of its bytes, and what a piece makes of it.
use Rattle.std.proofs.Common.{◌≡◌, ℕ, ◌<◌, List, [], ◌∷◌, ◌++◌, length, map, Option, Some, None, Ok, Vec, take, refl, sym, ap, subst, ◌∙◌}
use Rattle.hunk_base.specs.Longwords.{longwords}
use Rattle.hunk_words.specs.Files.{IsValidPrefix}
use Rattle.hunk_words.specs.declared.event.FileKind.TheVariants.{Load}
use Rattle.hunk_words.proofs.DecoderLemmas.{StandsFor-front}
use Rattle.hunk_loadfile.specs.LoadHunk.{FileHunk}
use Rattle.hunk_loader.specs.HeaderBytes.{Holds}
use Rattle.hunk_loader.specs.HeaderHunks.{HeaderRead, IsHeader, header_length, told_of, told_sizes}
use Rattle.hunk_loader.specs.HeaderLoader.{CannotPlace, HasTaken, HeaderState, IsSound, ReadsHeader, hunks_told}
use Rattle.hunk_loader.specs.ImageBuilder.{StandsFor as BuilderStandsFor}
use Rattle.hunk_loader.specs.ImageLoader.{IsNotPlaced}
use Rattle.hunk_loader.specs.Places.{IsFirstRefusal}
use Rattle.hunk_loader.specs.Sizes.{sizes_of}
use Rattle.hunk_loader.specs.declared.header_bytes.HeaderBytes.{HeaderBytes}
use Rattle.hunk_loader.specs.declared.header_hunks.HeaderHunk.{HeaderHunk}
use Rattle.hunk_loader.specs.declared.loading.LoadRefusal.{LoadRefusal}
use Rattle.hunk_loader.specs.declared.places.PlaceFault.{PlaceFault}
use Rattle.hunk_loader.proofs.HeaderHunksLemmas.{header-of-file}

-- the header is whole
pub sound-whole : {A : Type 0} (header : HeaderBytes A) (told : Option (List HeaderHunk)) (refusal : Option LoadRefusal) (hunks : List HeaderHunk) → IsSound header told refusal → told ≡ Some hunks
    → IsHeader header.bytes.items hunks
sound-whole header None refusal hunks sound is = let wrong = is in cc
sound-whole header (Some others) None hunks sound is = let same : others ≡ hunks = cc in subst (λ hs. IsHeader header.bytes.items hs) same sound.1
sound-whole header (Some others) (Some refusal) hunks sound is = let wrong = sound in cc

-- it is not
pub sound-begun : {A : Type 0} (header : HeaderBytes A) (told : Option (List HeaderHunk)) (refusal : Option LoadRefusal) → IsSound header told refusal → told ≡ None → refusal ≡ None
    → Holds header header.bytes.items × (length header.bytes.items < header_length (longwords header.bytes.items))
sound-begun header None None sound none good = sound
sound-begun header None (Some refusal) sound none good = let wrong = good in cc
sound-begun header (Some hunks) refusal sound none good = let wrong = none in cc

-- what was read of a piece is what the loader then has taken
pub HasTaken-read : {A : Type 0} (piece : List ℕ) (taken : ℕ) (hunks : Option (Vec HeaderHunk A)) (old new : HeaderState) (header : HeaderBytes A)
    → new.bytes ≡ header.bytes.items → new.hunks ≡ hunks_told hunks → ReadsHeader old.bytes piece header (Ok (taken, hunks)) → HasTaken piece taken old new
HasTaken-read piece taken hunks old new header bytes told read =
    let now : new.bytes ≡ old.bytes ++ take taken piece = bytes ∙ read.1.kept in
    record {
      within = read.0;
      bytes = now;
      begins = subst (λ bs. IsValidPrefix Load (longwords bs)) (sym now) (StandsFor-front Load BuilderStandsFor header.decoder (old.bytes ++ take taken piece) read.1.none read.1.stands);
      header = subst (λ bs. HeaderRead bs new.hunks) (sym now) (subst (λ hs. HeaderRead (old.bytes ++ take taken piece) hs) (sym told) read.2);
      goes_on = λ none. read.3 (sym told ∙ none);
    }

pub cannot-place : (bases : List ℕ) (fault : PlaceFault) (told : Option (List HeaderHunk)) (hunks : List HeaderHunk) → told ≡ Some hunks → CannotPlace bases fault told
    → IsFirstRefusal (told_sizes hunks) bases fault
cannot-place bases fault None hunks is cannot = absurd cannot
cannot-place bases fault (Some others) hunks is cannot = let same : others ≡ hunks = cc in subst (λ hs. IsFirstRefusal (told_sizes hs) bases fault) same cannot

-- ---- a file that begins with the header

told_sizes-of : (file : List FileHunk) → told_sizes (map told_of file) ≡ sizes_of file
told_sizes-of [] = refl
told_sizes-of (hunk ∷ file) = ap (λ sizes. hunk.size ∷ sizes) (told_sizes-of file)

-- What cannot be placed of it could not be placed by the header.
pub not-placed : (bases bytes more : List ℕ) (hunks : List HeaderHunk) (fault : PlaceFault) → IsHeader bytes hunks → IsNotPlaced bases (bytes ++ more) fault → IsFirstRefusal (told_sizes hunks) bases fault
not-placed bases bytes more hunks fault header unplaced =
    let sizes = ap (λ hs. told_sizes hs) (header-of-file bytes more hunks unplaced.hunks header unplaced.is_file) ∙ told_sizes-of unplaced.hunks in
    subst (λ ns. IsFirstRefusal ns bases fault) (sym sizes) unplaced.first
