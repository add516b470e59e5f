-- The files that a request reads, and the inputs of an operation over them.
use Rattle.std.proofs.Common.{◌≡◌, ◌≢◌, ℕ, zero, suc, ◌+◌, ◌<◌, Bool, Bor, IsTrue, List, [], ◌∷◌, ◌++◌, Option, Some, None, length, take, drop, get_or, arith, subst, sym, refl, ap}
use Rattle.std.specs.Io.KnownBytes.{IsAtEnd}
use Rattle.std.specs.List.{All, Contains}
use Rattle.std.proofs.Math.Seq.{split_at}
use Rattle.std.proofs.lemmas.List.Elements.{All-cons, All-nil}
use Rattle.std.proofs.lemmas.List.{get_or-map, length-map}
use Rattle.hunk_base.specs.declared.streams.Source.{Ghosts as FileGhosts}
use Rattle.hunk_tool.specs.declared.file_system.FileSystem.{Ghosts}
use Rattle.hunk_tool.specs.FileSystem.{FileContent, IsContent, MayBeMissing}
use Rattle.hunk_tool.specs.FileSystem.FileContent.{missing, unknown}
use Rattle.hunk_tool.specs.Inputs.{HaveRead, Input, inputs_of, file_names}
use Rattle.hunk_tool.proofs.InputsLemmas.{HaveRead-weaker}
use Rattle.hunk_store.specs.Opening.{IsOpening}
use Rattle.hunk_store.specs.Inputs.{AreInputs, AreReadersOf, IsInput, IsOpenFailure, IsUnopened, OfFiles, OfWholeFiles, ended_in, ended_where, failed_in, left_in, left_where}
use Rattle.hunk_store.specs.Store.{Contents}
use Rattle.hunk_store.specs.declared.failure.Failure.{Failure}
use Rattle.hunk_store.specs.declared.failure.Failure.TheVariants.{BadName, BadNumber, MapOverFile, Opening, Printing, Reading, SameFile, TooLong, TooManyAddresses, Tool, Writing}
use Rattle.hunk_store.specs.declared.input.Input.{Input as FileInput}

-- the name of the file with this number is among the names
pub Contains-name : (files : List (Bor (List ℕ))) (index : ℕ) (none : Bor (List ℕ)) → index < length files → Contains (file_names files) (get_or files index none).now
Contains-name files index none within =
    let name : Bor (List ℕ) → List ℕ = λ file. file.now in
    (index, omega (arith, length-map files name), get_or-map name files index none (get_or files index none).now within)

-- a file that was opened is not known to be missing
there : (content : FileContent) (left : Option (List ℕ)) → IsContent content left → content ≢ missing
there content left is = λ same. subst (λ c. IsContent c left) same is

-- the file with this number cannot be opened, and those before it may be there
unopened_at : (contents : Contents) (files : List (Bor (List ℕ))) (index : ℕ) (none : Bor (List ℕ)) → index < length files → All (λ other. contents other ≢ missing) (take index (file_names files))
    → MayBeMissing (contents (get_or files index none).now) → IsUnopened contents (file_names files) (get_or files index none).now
unopened_at contents files index none within earlier lacks =
    let name : Bor (List ℕ) → List ℕ = λ file. file.now in
    let here : get_or (file_names files) index [] ≡ (get_or files index none).now = get_or-map name files index none [] within in
    record {
      before = take index (file_names files);
      after = drop (suc index) (file_names files);
      among = subst (λ it. file_names files ≡ take index (file_names files) ++ it ∷ drop (suc index) (file_names files)) here (split_at (file_names files) index [] (omega (arith, within, length-map files name)));
      earlier = earlier;
      lacks = lacks;
    }

pub IsOpenFailure-opening : (contents : Contents) (files : List (Bor (List ℕ))) (index : ℕ) (none : Bor (List ℕ)) (failure : Failure) → index < length files → All (λ other. contents other ≢ missing) (take index (file_names files))
    → IsOpening contents (get_or files index none) failure → IsOpenFailure contents (file_names files) failure
IsOpenFailure-opening contents files index none (BadNumber addresses part) within earlier is = absurd is
IsOpenFailure-opening contents files index none (Opening name reason) within earlier is =
    subst (λ n. IsOpenFailure contents (file_names files) (Opening n reason)) (sym is.0) (unopened_at contents files index none within earlier is.1)
IsOpenFailure-opening contents files index none (TooManyAddresses name) within earlier is = absurd is
IsOpenFailure-opening contents files index none (TooLong name) within earlier is = absurd is
IsOpenFailure-opening contents files index none (BadName list number) within earlier is = absurd is
IsOpenFailure-opening contents files index none (Reading name) within earlier is = absurd is
IsOpenFailure-opening contents files index none (Writing name) within earlier is = absurd is
IsOpenFailure-opening contents files index none (SameFile name) within earlier is = absurd is
IsOpenFailure-opening contents files index none (MapOverFile name) within earlier is = absurd is
IsOpenFailure-opening contents files index none Printing within earlier is = absurd is
IsOpenFailure-opening contents files index none (Tool fault) within earlier is = absurd is

-- the first of two files cannot be opened; or it may be there, and the second cannot
pub unopened_first : (contents : Contents) (first second : List ℕ) → MayBeMissing (contents first) → IsUnopened contents (first ∷ second ∷ []) first
unopened_first contents first second lacks = record { before = []; after = second ∷ []; among = refl; earlier = All-nil (λ other. contents other ≢ missing); lacks = lacks }

pub unopened_second : (contents : Contents) (first second : List ℕ) (left : Option (List ℕ)) → IsContent (contents first) left → MayBeMissing (contents second) → IsUnopened contents (first ∷ second ∷ []) second
unopened_second contents first second left is lacks = record {
  before = first ∷ [];
  after = [];
  among = refl;
  earlier = All-cons (λ other. contents other ≢ missing) first [] (there (contents first) left is) (All-nil (λ other. contents other ≢ missing));
  lacks = lacks;
}

module _ {S F : Type 0} {g : Ghosts S F} {h : FileGhosts F} (content : S → Contents) (left : F → Option (List ℕ)) (store : S) where
  -- there is one input for each file
  pub length-inputs : (names : List (List ℕ)) (inputs : List (FileInput S F g h)) → AreInputs content left store names inputs → length inputs ≡ length names
  length-inputs [] [] are = refl
  length-inputs [] (input ∷ inputs) are = absurd are
  length-inputs (name ∷ names) [] are = absurd are
  length-inputs (name ∷ names) (input ∷ inputs) are = ap suc (length-inputs names inputs are.1)

  -- the files of which there are inputs may be there
  pub AreInputs-there : (names : List (List ℕ)) (inputs : List (FileInput S F g h)) → AreInputs content left store names inputs → All (λ other. content store other ≢ missing) names
  AreInputs-there [] inputs are = All-nil (λ other. content store other ≢ missing)
  AreInputs-there (name ∷ names) [] are = absurd are
  AreInputs-there (name ∷ names) (input ∷ inputs) are =
      All-cons (λ other. content store other ≢ missing) name names (there (content store name) (left_in content left input) are.0.from_start) (AreInputs-there names inputs are.1)

  -- the inputs so far, and the next one
  inputs_more : (names : List (List ℕ)) (inputs : List (FileInput S F g h)) (input : FileInput S F g h) (index : ℕ) → index < length names
      → AreInputs content left store (take index names) inputs → IsInput content left store (get_or names index []) input → AreInputs content left store (take (suc index) names) (inputs ++ input ∷ [])
  inputs_more [] inputs input index within are is = absurd (omega (arith, within))
  inputs_more (name ∷ names) [] input zero within are is = (is, tt)
  inputs_more (name ∷ names) [] input (suc index) within are is = absurd are
  inputs_more (name ∷ names) (first ∷ rest) input zero within are is = absurd are
  inputs_more (name ∷ names) (first ∷ rest) input (suc index) within are is = (are.0, inputs_more names rest input index (omega (arith, within)) are.1 is)

  pub AreInputs-more : (files : List (Bor (List ℕ))) (none : Bor (List ℕ)) (inputs : List (FileInput S F g h)) (input : FileInput S F g h) (index : ℕ) → index < length files
      → AreInputs content left store (take index (file_names files)) inputs → IsInput content left store (get_or files index none).now input
      → AreInputs content left store (take (index + 1) (file_names files)) (inputs ++ input ∷ [])
  AreInputs-more files none inputs input index within are is =
      let name : Bor (List ℕ) → List ℕ = λ file. file.now in
      let here : get_or (file_names files) index [] ≡ (get_or files index none).now = get_or-map name files index none [] within in
      let one : suc index ≡ index + 1 = omega arith in
      subst (λ count. AreInputs content left store (take count (file_names files)) (inputs ++ input ∷ [])) one
      (inputs_more (file_names files) inputs input index (omega (arith, within, length-map files name)) are (subst (λ it. IsInput content left store it input) (sym here) is))

  -- ---- what was read of them

  module _ (failed ended : F → Bool) (at_end : (file : F) → IsTrue (ended file) → IsAtEnd (left file)) (may_fail : (input : FileInput S F g h) → IsTrue input.failed → (system : S) (name : List ℕ) → content system name ≡ unknown) where
    where_at_end : (content_is : FileContent) (file : Option F) → IsTrue (ended_where ended file) → IsAtEnd (left_where left content_is file)
    where_at_end content_is (Some file) is = at_end file is
    where_at_end content_is None is = cc

    -- each of these is what is known of a reader of its file
    pub AreReadersOf-inputs : (names : List (List ℕ)) (olds news : List (FileInput S F g h)) → length news ≡ length olds → AreInputs content left store names olds
        → AreReadersOf (content store) names (inputs_of (left_in content left) failed_in (ended_in ended) olds news)
    AreReadersOf-inputs [] [] news same are = tt
    AreReadersOf-inputs [] (old ∷ olds) news same are = absurd are
    AreReadersOf-inputs (name ∷ names) [] news same are = absurd are
    AreReadersOf-inputs (name ∷ names) (old ∷ olds) [] same are = absurd (omega (arith, same))
    AreReadersOf-inputs (name ∷ names) (old ∷ olds) (new ∷ news) same are = (
      record { from_start = are.0.from_start; to_end = where_at_end (content new.store.now new.name.now) new.file; may_fail = λ failing. may_fail new failing store name },
      AreReadersOf-inputs names olds news (omega (arith, same)) are.1,
    )

    -- this holds of readers of the files, since it holds of what was read of their inputs
    pub OfFiles-inputs : (names : List (List ℕ)) (olds news : List (FileInput S F g h)) (Holds : List Input → Type 0) → length news ≡ length olds → AreInputs content left store names olds
        → Holds (inputs_of (left_in content left) failed_in (ended_in ended) olds news) → OfFiles (content store) names Holds
    OfFiles-inputs names olds news Holds same are holds = record {
      inputs = inputs_of (left_in content left) failed_in (ended_in ended) olds news;
      are_readers = AreReadersOf-inputs names olds news same are;
      holds = holds;
    }

pub OfFiles-weaker : (contents : Contents) (names : List (List ℕ)) (Holds Weaker : List Input → Type 0) → ((inputs : List Input) → Holds inputs → Weaker inputs) → OfFiles contents names Holds → OfFiles contents names Weaker
OfFiles-weaker contents names Holds Weaker weaker of = record { inputs = of.inputs; are_readers = of.are_readers; holds = weaker of.inputs of.holds }

pub OfWholeFiles-weaker : (contents : Contents) (names : List (List ℕ)) (Holds Weaker : List (List ℕ) → Type 0) → ((files : List (List ℕ)) → Holds files → Weaker files) → OfWholeFiles contents names Holds → OfWholeFiles contents names Weaker
OfWholeFiles-weaker contents names Holds Weaker weaker of =
    OfFiles-weaker contents names (λ inputs. HaveRead inputs Holds) (λ inputs. HaveRead inputs Weaker) (λ inputs read. HaveRead-weaker inputs Holds Weaker weaker read) of
