-- What was read of files that are known, and what is printed of the file that was linked of them.
use Rattle.std.proofs.Common.{◌≡◌, ◌∙◌, ℕ, Bool, List, [], ◌∷◌, ◌++◌, Option, Some, None, map, refl, sym, ap, subst, append-nil}
use Rattle.std.specs.Io.KnownBytes.{Appends, Consumes, IsAtEnd}
use Rattle.hunk_tool.specs.FileSystem.{FileContent, IsContent, IsReaderOf, OfFile, OfWholeFile}
use Rattle.hunk_tool.specs.FileSystem.FileContent.{known}
use Rattle.hunk_tool.specs.Image.{IsImaged}
use Rattle.hunk_tool.specs.Inputs.{Input, WasRead, WereRead}
use Rattle.hunk_tool.specs.Link.{IsLinked, linked_bytes}
use Rattle.hunk_tool.specs.Load.{IsReported}
use Rattle.hunk_tool.specs.declared.link_options.LinkOptions.{LinkOptions}
use Rattle.hunk_tool.proofs.HeadlineLemmas.{reports-agree}
use Rattle.hunk_addresses.specs.BasesFile.{file_numbers}
use Rattle.hunk_store.specs.Addresses.{HasNumbers, HaveNumbers, AddressSource}
use Rattle.hunk_store.specs.Addresses.AddressSource.{in_file, in_list}
use Rattle.hunk_store.specs.Inputs.{AreReadersOf, OfWholeFiles}
use Rattle.hunk_store.specs.Store.{Contents, IsKnown, content_of}
use Rattle.hunk_store.proofs.InputsLemmas.{OfWholeFiles-weaker}
use Rattle.hunk_commands.specs.Headline.{AreKept, LoadPrintsTheImage}
use Rattle.hunk_commands.specs.Link.{IsDone, IsLinkedWithMap}

-- ---- files that are known

-- what was consumed up to the end is all that was left
consumed_whole : (left_then : Option (List ℕ)) (bytes text : List ℕ) → Consumes (Some text) left_then bytes → IsAtEnd left_then → bytes ≡ text
consumed_whole None bytes text consumed at_end = absurd consumed
consumed_whole (Some rest) bytes text consumed at_end = sym (append-nil bytes) ∙ ap (λ r. bytes ++ r) (sym at_end) ∙ sym consumed

-- what was read of a file that is known, up to its end, is its bytes
was_whole : (content : FileContent) (input : Input) (bytes text : List ℕ) → content ≡ known text → IsReaderOf content input → WasRead input bytes → bytes ≡ text
was_whole content input bytes text is reader read =
    let start : input.left ≡ Some text = subst (λ c. IsContent c input.left) is reader.from_start in
    consumed_whole input.left_then bytes text (subst (λ left. Consumes left input.left_then bytes) start read.consumed) (reader.to_end read.ended)

were_whole : (contents : Contents) (names : List (List ℕ)) (inputs : List Input) (files texts : List (List ℕ)) → map contents names ≡ map known texts → AreReadersOf contents names inputs → WereRead inputs files → files ≡ texts
were_whole contents [] [] [] [] are readers read = refl
were_whole contents [] [] [] (text ∷ texts) are readers read = cc
were_whole contents [] [] (file ∷ files) texts are readers read = absurd read
were_whole contents [] (input ∷ inputs) files texts are readers read = absurd readers
were_whole contents (name ∷ names) [] files texts are readers read = absurd readers
were_whole contents (name ∷ names) (input ∷ inputs) [] texts are readers read = absurd read
were_whole contents (name ∷ names) (input ∷ inputs) (file ∷ files) [] are readers read = cc
were_whole contents (name ∷ names) (input ∷ inputs) (file ∷ files) (text ∷ texts) are readers read =
    let here : contents name ≡ known text = cc in
    let there : map contents names ≡ map known texts = cc in
    let first : file ≡ text = was_whole (contents name) input file text here readers.0 read.0 in
    let others : files ≡ texts = were_whole contents names inputs files texts there readers.1 read.1 in
    subst (λ it. it ∷ files ≡ text ∷ texts) (sym first) (ap (λ rest. text ∷ rest) others)

-- this holds of the bytes of files that are known
of_known_files : (contents : Contents) (names texts : List (List ℕ)) (Holds : List (List ℕ) → Type 0) → map contents names ≡ map known texts → OfWholeFiles contents names Holds → Holds texts
of_known_files contents names texts Holds are of =
    subst Holds (were_whole contents names of.inputs of.holds.files texts are of.are_readers of.holds.were_read) of.holds.holds

-- and of one
of_known_file : (content : FileContent) (text : List ℕ) (Holds : List ℕ → Type 0) → content ≡ known text → OfWholeFile content Holds → Holds text
of_known_file content text Holds is of =
    let read = of.holds.0 in
    subst Holds (was_whole content of.input read.bytes text is of.is_reader (record { consumed = read.consumed; ended = of.holds.1 })) read.holds

-- ---- what was linked of them

appended : (taken : Option (List ℕ)) (bytes : List ℕ) → Appends (Some []) taken bytes → taken ≡ Some bytes
appended None bytes wrote = absurd wrote
appended (Some held) bytes wrote = ap Some wrote

-- what was put in the place of OUT, with a map or without
record IsPut (globals : Bool) (options : LinkOptions) (contents : Contents) (files : List (List ℕ)) (out : List ℕ) (contents_then : Contents) : Type 0 where
  start : Option (List ℕ)
  taken : Option (List ℕ)
  begun : start ≡ Some []
  links : OfWholeFiles contents files (IsLinked globals options start taken)
  placed : contents_then out ≡ content_of taken

put : (globals : Bool) (options : LinkOptions) (contents contents_then : Contents) (files : List (List ℕ)) (out : List ℕ) (map_file : Option (List ℕ)) → IsKnown (contents out) → IsDone globals options contents files out map_file contents_then
    → IsPut globals options contents files out contents_then
put globals options contents contents_then files out None is_known made =
    record { start = made.start; taken = made.taken; begun = made.begun is_known; links = made.linked; placed = made.replaced.placed is_known }
put globals options contents contents_then files out (Some map_file) is_known (mapped, apart) = record {
  start = mapped.start;
  taken = mapped.taken;
  begun = mapped.begun is_known;
  links = OfWholeFiles-weaker contents files (IsLinkedWithMap globals options files mapped.start mapped.taken map_file mapped.between contents_then) (IsLinked globals options mapped.start mapped.taken) (λ read with_map. with_map.linked) mapped.linked;
  placed = mapped.linked.holds.holds.has_map.replaced.others out apart ∙ mapped.replaced.placed is_known;
}

module _ (globals : Bool) (options : LinkOptions) (contents contents_then : Contents) (files texts : List (List ℕ)) (out : List ℕ) (texts_are : map contents files ≡ map known texts) (is_put : IsPut globals options contents files out contents_then) where
  linked : IsLinked globals options (Some []) is_put.taken texts
  linked = subst (λ start. IsLinked globals options start is_put.taken texts) is_put.begun
      (of_known_files contents files texts (IsLinked globals options is_put.start is_put.taken) texts_are is_put.links)

  bytes : List ℕ
  bytes = linked_bytes linked.units globals options

  taken_is : is_put.taken ≡ Some bytes
  unfolding bytes
  taken_is = appended is_put.taken bytes linked.written

  linked_as : IsLinked globals options (Some []) (Some bytes) texts
  linked_as = subst (λ taken. IsLinked globals options (Some []) taken texts) taken_is linked

  -- OUT has these bytes now
  out_is : contents_then out ≡ known bytes
  out_is = is_put.placed ∙ ap content_of taken_is

-- ---- the headline

map_some_injective : (one other : List ℕ) → map Some one ≡ map Some other → one ≡ other
map_some_injective [] [] same = refl
map_some_injective [] (y ∷ other) same = cc
map_some_injective (x ∷ one) [] same = cc
map_some_injective (x ∷ one) (y ∷ other) same =
    let first : x ≡ y = cc in
    let tails : map Some one ≡ map Some other = cc in
    let rest : one ≡ other = map_some_injective one other tails in
    subst (λ it. it ∷ one ≡ y ∷ other) (sym first) (ap (λ xs. y ∷ xs) rest)

-- the numbers in a file that is known are those of its bytes
file_numbers_are : (content : FileContent) (bases text : List ℕ) → content ≡ known text → OfFile content (λ input. HasNumbers input bases) → file_numbers text ≡ map Some bases
file_numbers_are content bases text is of =
    subst (λ bytes. file_numbers bytes ≡ map Some bases) (was_whole content of.input of.holds.0 text is of.is_reader of.holds.1) of.holds.2.numbers

-- both read the same numbers
same_numbers : (contents contents_then : Contents) (source : AddressSource) (bases other : List ℕ) → AreKept contents contents_then source → HaveNumbers contents source bases → HaveNumbers contents_then source other → bases ≡ other
same_numbers contents contents_then (in_list list) bases other kept numbers there = map_some_injective bases other (sym numbers ∙ there)
same_numbers contents contents_then (in_file name) bases other (text, before, after) numbers there =
    map_some_injective bases other (sym (file_numbers_are (contents name) bases text before numbers) ∙ file_numbers_are (contents_then name) other text after there)

pub load_prints_the_image : LoadPrintsTheImage
unfolding linked bytes taken_is linked_as out_is
load_prints_the_image globals options form source contents contents_then files texts out map_file loaded imaged told other of kept is_loaded loads is_imaged images =
    let bases = is_loaded.0.bases in
    let same : is_imaged.0.bases ≡ bases = same_numbers contents contents_then source is_imaged.0.bases bases kept is_imaged.0.numbers_are is_loaded.0.numbers_are in
    let is_put : IsPut globals options contents files out contents_then = put globals options contents contents_then files out map_file of.out_known of.done in
    let file = bytes globals options contents contents_then files texts out of.texts_are is_put in
    let reported : IsReported form bases loaded.old loaded.new file = of_known_file (contents_then out) file (IsReported form bases loaded.old loaded.new) (out_is globals options contents contents_then files texts out of.texts_are is_put) is_loaded.0.holds in
    let imaged_as : IsImaged form is_imaged.0.bases imaged.old imaged.new texts = of_known_files contents files texts (IsImaged form is_imaged.0.bases imaged.old imaged.new) of.texts_are is_imaged.0.holds in
    let imaged_there : IsImaged form bases (Some images.before) (Some (images.before ++ other)) texts =
    subst (λ b. IsImaged form b (Some images.before) (Some (images.before ++ other)) texts) same
    (subst (λ new. IsImaged form is_imaged.0.bases (Some images.before) new texts) images.new_is
    (subst (λ old. IsImaged form is_imaged.0.bases old imaged.new texts) images.old_is imaged_as)) in
    let reported_there : IsReported form bases (Some loads.before) (Some (loads.before ++ told)) file =
    subst (λ new. IsReported form bases (Some loads.before) new file) loads.new_is
    (subst (λ old. IsReported form bases old loaded.new file) loads.old_is reported) in
    reports-agree globals options form texts bases [] file loads.before told images.before other (linked_as globals options contents contents_then files texts out of.texts_are is_put) reported_there imaged_there
