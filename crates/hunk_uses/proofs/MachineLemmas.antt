-- A program that is loaded after its header, or not.
use Rattle.std.proofs.Common.{◌≡◌, ℕ, ◌-◌, List, [], ◌∷◌, ◌++◌, drop, length, map, take, Option, Some, None, Result, Ok, Err, IfOk, IfErr, refl, sym, ap, subst, ◌∙◌}
use Rattle.std.proofs.Math.Seq.{take-length}
use Rattle.hunk_words.specs.FirstOffence.FirstOffence.{longword_offends, end_offends}
use Rattle.hunk_words.proofs.DecoderLemmas.{append-tail}
use Rattle.hunk_loadfile.specs.LoadHunk.{FileHunk}
use Rattle.hunk_loadfile.specs.LoadFile.{IsLoadOf}
use Rattle.hunk_loader.specs.HeaderBytes.{EndsEarlyAt}
use Rattle.hunk_loader.specs.HeaderHunks.{HeaderRead, told_of, told_sizes}
use Rattle.hunk_loader.specs.HeaderLoader.{CanPlace, CannotPlace, HasTaken, HeaderState, StaysPlaced}
use Rattle.hunk_loader.specs.ImageLoader.{Fed, Finished, IsNotPlaced, LoadsAs}
use Rattle.hunk_loader.specs.Loading.{loaded}
use Rattle.hunk_loader.specs.Places.{IsFirstRefusal, Placed}
use Rattle.hunk_loader.specs.Sizes.{sizes_of}
use Rattle.hunk_loader.specs.declared.header_hunks.HeaderHunk.{HeaderHunk}
use Rattle.hunk_loader.specs.declared.loading.LoadRefusal.{LoadRefusal}
use Rattle.hunk_loader.specs.declared.loading.LoadRefusal.TheVariants.{File, Place, OutOfMemory}
use Rattle.hunk_loader.specs.declared.places.PlaceFault.{PlaceFault}
use Rattle.hunk_loader.proofs.HeaderHunksLemmas.{header-of-file}
use Rattle.hunk_uses.specs.Emulator.{IsLoadedFrom, bases_from}
use Rattle.hunk_uses.specs.Machine.{AreChosen, IsMisplacedFrom, IsRejectedFrom}

pub rejected-fed : (first : ℕ) (file : List ℕ) (refusal : LoadRefusal) → Fed file (Err refusal) → IsRejectedFrom first file refusal
rejected-fed first file (File fault) fed = longword_offends fed
rejected-fed first file (Place fault) fed = absurd fed
rejected-fed first file OutOfMemory fed = tt

rejected-end : (first : ℕ) (file : List ℕ) (refusal : LoadRefusal) → EndsEarlyAt file refusal → IsRejectedFrom first file refusal
rejected-end first file (File fault) ends = end_offends ends
rejected-end first file (Place fault) ends = absurd ends
rejected-end first file OutOfMemory ends = absurd ends

-- all of a file was taken that ends in its header
pub rejected-early : (first taken : ℕ) (file : List ℕ) (old new : HeaderState) (refusal : LoadRefusal) → old.bytes ≡ [] → HasTaken file taken old new → new.hunks ≡ None → EndsEarlyAt new.bytes refusal
    → IsRejectedFrom first file refusal
rejected-early first taken file old new refusal begun has none ends =
    let whole : new.bytes ≡ file = has.bytes ∙ ap (λ bs. bs ++ take taken file) begun ∙ ap (λ n. take n file) (has.goes_on none) ∙ take-length file in
    rejected-end first file refusal (subst (λ bs. EndsEarlyAt bs refusal) whole ends)

pub misplaced-from : (first : ℕ) (file bases bytes more : List ℕ) (told : Option (List HeaderHunk)) (fault : PlaceFault) → HeaderRead bytes told → file ≡ bytes ++ more → AreChosen first told bases
    → CannotPlace bases fault told → IsMisplacedFrom first fault file
misplaced-from first file bases bytes more None fault read parts chosen cannot = absurd cannot
misplaced-from first file bases bytes more (Some hunks) fault read parts chosen cannot =
    record { header = bytes; more = more; parts = parts; hunks = hunks; is_header = read; first_fault = subst (λ bs. IsFirstRefusal (told_sizes hunks) bs fault) (chosen hunks refl) cannot }

pub told_sizes-of : (file : List FileHunk) → told_sizes (map told_of file) ≡ sizes_of file
told_sizes-of [] = refl
told_sizes-of (hunk ∷ file) = ap (λ sizes. hunk.size ∷ sizes) (told_sizes-of file)

pub loaded-from : (first : ℕ) (file bases bytes more : List ℕ) (told : Option (List HeaderHunk)) (image : List (ℕ × List ℕ)) → HeaderRead bytes told → file ≡ bytes ++ more → AreChosen first told bases
    → CanPlace bases told → LoadsAs bases file image → IsLoadedFrom first image file
loaded-from first file bases bytes more None image read parts chosen can loads = absurd can
loaded-from first file bases bytes more (Some hunks) image read parts chosen can loads =
    let same = header-of-file bytes more hunks loads.hunks read (subst (λ bs. IsLoadOf loads.hunks bs) parts loads.is_file) in
    let is : bases ≡ bases_from first (sizes_of loads.hunks) = chosen hunks refl ∙ ap (λ hs. bases_from first (told_sizes hs)) same ∙ ap (λ ns. bases_from first ns) (told_sizes-of loads.hunks) in
    record {
      hunks = loads.hunks;
      is_file = loads.is_file;
      placed = subst (λ bs. Placed (sizes_of loads.hunks) bs) is loads.placed;
      image_is = loads.image_is ∙ ap (λ bs. loaded loads.hunks bs) is;
    }

pub rejected-finish : (first : ℕ) (file bases bytes more : List ℕ) (refusal : LoadRefusal) → file ≡ bytes ++ more → StaysPlaced bases bytes → Finished bases file (Err refusal) → IsRejectedFrom first file refusal
rejected-finish first file bases bytes more (File fault) parts stays finished = finished
rejected-finish first file bases bytes more (Place fault) parts stays finished = absurd (stays more fault (subst (λ bs. IsNotPlaced bases bs fault) parts finished))
rejected-finish first file bases bytes more OutOfMemory parts stays finished = tt

-- the bytes of the header, and those that the loader is fed after them
pub file-parts : (file : List ℕ) (taken : ℕ) (old new : HeaderState) → old.bytes ≡ [] → HasTaken file taken old new → new.bytes ++ take (length file - taken) (drop taken file) ≡ file
file-parts file taken old new begun has =
    ap (λ bs. bs ++ take (length file - taken) (drop taken file)) (has.bytes ∙ ap (λ bs. bs ++ take taken file) begun) ∙ append-tail [] file taken has.within

pub finished-at : (given bases bytes file : List ℕ) (result : Result (List (ℕ × List ℕ)) LoadRefusal) → given ≡ bases → bytes ≡ file → Finished given bytes result → Finished bases file result
finished-at given bases bytes file result same parts finished = subst (λ bs. Finished bases bs result) parts (subst (λ bs. Finished bs bytes result) same finished)

pub finish-loaded : (first : ℕ) (file bases bytes more : List ℕ) (told : Option (List HeaderHunk)) (result : Result (List (ℕ × List ℕ)) LoadRefusal) → HeaderRead bytes told → bytes ++ more ≡ file
    → AreChosen first told bases → CanPlace bases told → Finished bases file result → IfOk result (λ image. IsLoadedFrom first image file)
finish-loaded first file bases bytes more told (Ok image) read parts chosen can finished = loaded-from first file bases bytes more told image read (sym parts) chosen can finished
finish-loaded first file bases bytes more told (Err refusal) read parts chosen can finished = tt

pub finish-refused : (first : ℕ) (file bases bytes more : List ℕ) (result : Result (List (ℕ × List ℕ)) LoadRefusal) → bytes ++ more ≡ file → StaysPlaced bases bytes → Finished bases file result
    → IfErr result (IsRejectedFrom first file)
finish-refused first file bases bytes more (Ok image) parts stays finished = tt
finish-refused first file bases bytes more (Err refusal) parts stays finished = rejected-finish first file bases bytes more refusal (sym parts) stays finished
