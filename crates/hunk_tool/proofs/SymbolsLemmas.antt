-- How many bytes the lines of symbols have, what is left out of them, and what was read before they are written.
use Rattle.std.proofs.Common.{◌≡◌, ℕ, zero, suc, ◌*◌, ◌^◌, ◌<◌, ◌≤◌, if◌then◌else◌, List, [], ◌++◌, length, codes, not, true, false, Option, Bool, IsTrue, Result, Ok, Err, OnOk, Vec, inl, inr, refl, sym, ap, ap₂, subst, arith}
use Rattle.std.specs.List.{All, flat_map, zip}
use Rattle.std.specs.Prelude.{slice_index}
use Rattle.std.proofs.KnownBytes.{Keeps-refl}
use Rattle.std.proofs.lemmas.List.{length-append, length-map}
use Rattle.std.proofs.lemmas.List.Filters.{length-filter_both}
use Rattle.std.proofs.lemmas.List.Sums.{sum_by-le-sum_by}
use Rattle.std.proofs.lemmas.Slice.Zip.{length-zip}
use Rattle.hunk_words.specs.Decoder.{RefusesRead}
use Rattle.hunk_base.specs.Streams.{HasRead, IsDevice, TookFront, WriteStopped}
use Rattle.hunk_words.specs.declared.event.FileKind.TheVariants.{Load}
use Rattle.hunk_base.specs.declared.fault.ReadFault.{ReadFault}
use Rattle.hunk_base.specs.declared.fault.ReadFault.TheVariants as read_fault
use Rattle.hunk_base.specs.declared.fault.Refusal.TheVariants as refusal_is
use Rattle.hunk_base.specs.declared.fault.WriteFault.{WriteFault}
use Rattle.hunk_base.specs.declared.fault.WriteFault.TheVariants as write_fault
use Rattle.hunk_base.proofs.StreamsLemmas.{HasRead-weaker}
use Rattle.hunk_loadfile.specs.LoadFile.{IsLoadOf}
use Rattle.hunk_loadfile.specs.LoadHunk.{FileHunk}
use Rattle.hunk_loadfile.specs.Rules.{IsLoadFile, IsLoadHunk, carried_by, symbol_longwords}
use Rattle.hunk_loader.specs.ImageLoader.{IsNotPlaced}
use Rattle.hunk_loader.specs.ImageReader.{IsRefused}
use Rattle.hunk_loader.specs.Image.{hunks_of}
use Rattle.hunk_loader.specs.Loading.{loaded, loaded_bytes}
use Rattle.hunk_loader.specs.Places.{Placed}
use Rattle.hunk_loader.specs.Sizes.{sizes_of}
use Rattle.hunk_image_text.specs.ImageText.{EndsInside, image_text}
use Rattle.hunk_image_text.specs.declared.image_form.ImageForm.TheVariants.{SRecords}
use Rattle.hunk_image_text.proofs.ImageTextLemmas.{length-hunks_of, length-image_text-lt}
use Rattle.hunk_image_text.proofs.RecordLemmas.{length-left_out_record-le}
use Rattle.hunk_base.specs.Digits.{eight_digits}
use Rattle.hunk_base.specs.Text.{line}
use Rattle.hunk_base.proofs.DigitsLemmas.{length-decimal}
use Rattle.hunk_base.proofs.QuotedNameLemmas.{length-escaped_all-le}
use Rattle.hunk_text.proofs.ListingSizeLemmas.{HasShortName, length-eight_digits, length-le-sum_by, length-lines-le, length-numbered-le, most_line}
use Rattle.hunk_tool.specs.Link.{Taken}
use Rattle.hunk_tool.specs.Load.{Ends, IsCutShortAt, IsFaultAt, IsWrittenAt, ends_of}
use Rattle.hunk_tool.specs.Symbols.{IsPlacedFault, IsPlacedText, address_line, hunk_symbol_lines, is_held, left_out_text, number_left_out, record_line, record_text, symbol_address, symbol_line, symbol_lines, symbols_text, unheld_in}
use Rattle.hunk_tool.specs.ToolFault.{tool_fault_of_read, tool_fault_of_write}
use Rattle.hunk_tool.specs.declared.symbol_form.SymbolForm.{SymbolForm}
use Rattle.hunk_tool.specs.declared.symbol_form.SymbolForm.TheVariants.{Lines, Records}
use Rattle.hunk_tool.specs.declared.tool_fault.ToolFault.{ToolFault}
use Rattle.hunk_tool.specs.declared.tool_fault.ToolFault.TheVariants as tool_fault
use Rattle.hunk_tool.proofs.LoadLemmas.{ends-loaded_from}

-- ---- lengths

length-address_line-le : (number base : ℕ) (symbol : List ℕ × ℕ) → number < 2 ^ 64 → HasShortName symbol → length (address_line number base symbol) ≤ most_line
length-address_line-le number base symbol fits short =
    simp length-append (omega (arith, length-escaped_all-le symbol.0, length-eight_digits (symbol_address base symbol.1), length-decimal number fits))

length-if-le : (test : Bool) (text : List ℕ) (most : ℕ) → length text ≤ most → length (if test then text else []) ≤ most
length-if-le true text most fits = fits
length-if-le false text most fits = omega arith

length-record_line-le : (base : ℕ) (symbol : List ℕ × ℕ) → HasShortName symbol → length (record_line base symbol) ≤ most_line
length-record_line-le base symbol short =
    let all = line (codes "  " ++ symbol.0 ++ codes " $" ++ eight_digits (symbol_address base symbol.1)) in
    length-if-le (is_held symbol.0) all most_line (simp length-append (omega (arith, length-eight_digits (symbol_address base symbol.1))))

length-symbol_line-le : (form : SymbolForm) (number base : ℕ) (symbol : List ℕ × ℕ) → number < 2 ^ 64 → HasShortName symbol → length (symbol_line form number base symbol) ≤ most_line
length-symbol_line-le Lines number base symbol fits short = length-address_line-le number base symbol fits short
length-symbol_line-le Records number base symbol fits short = length-record_line-le base symbol short

length-hunk_symbol_lines-le : (form : SymbolForm) (bases : List ℕ) (count number : ℕ) (hunk : FileHunk) → number < 2 ^ 64 → IsLoadHunk count hunk → length (hunk_symbol_lines form bases (number, hunk)) ≤ most_line * carried_by hunk
length-hunk_symbol_lines-le form bases count number hunk fits is =
    let lines = length-lines-le HasShortName (symbol_line form number (slice_index bases number)) hunk.symbols (λ symbol. length-symbol_line-le form number (slice_index bases number) symbol fits) is.names in
    omega (arith, lines, length-le-sum_by symbol_longwords hunk.symbols (λ symbol. omega arith))

pub symbol_lines-fit : (form : SymbolForm) (hunks : List FileHunk) (bases : List ℕ) → IsLoadFile hunks → length (symbol_lines form hunks bases) < 2 ^ 60
symbol_lines-fit form hunks bases is =
    let count = length hunks in
    let lines = length-numbered-le (IsLoadHunk count) (hunk_symbol_lines form bases) carried_by 0 hunks (λ number hunk. length-hunk_symbol_lines-le form bases count number hunk) (omega (arith, is.few)) is.each in
    omega (arith, lines, is.carries)

-- ---- what is left out

unheld-le : (hunk : FileHunk) → unheld_in hunk ≤ carried_by hunk
unheld-le hunk =
    let left_out : List ℕ × ℕ → Bool = λ symbol. not (is_held symbol.0) in
    omega (
      arith,
      length-filter_both left_out (λ symbol. not (left_out symbol)) (λ symbol. refl) hunk.symbols,
      length-le-sum_by symbol_longwords hunk.symbols (λ symbol. omega arith),
    )

pub number_left_out-fits : (hunks : List FileHunk) → IsLoadFile hunks → number_left_out hunks ≤ 2 ^ 28
number_left_out-fits hunks is = omega (arith, sum_by-le-sum_by unheld_in carried_by hunks unheld-le, is.carries)

length-left_out_text-le : (count : ℕ) → count < 2 ^ 64 → length (left_out_text count) ≤ 128
length-left_out_text-le zero fits = omega arith
length-left_out_text-le (suc others) fits = length-left_out_record-le (suc others) fits

length-parts-lt : (first lines last told image : List ℕ) → length first ≤ 64 → length lines < 2 ^ 60 → length last ≤ 64 → length told ≤ 128 → length image < 2 ^ 61 → length (first ++ (lines ++ (last ++ (told ++ image)))) < 2 ^ 64
length-parts-lt first lines last told image one two three four five =
    omega (arith, length-append first (lines ++ (last ++ (told ++ image))), length-append lines (last ++ (told ++ image)), length-append last (told ++ image), length-append told image)

pub record_text-fits : {A : Type 0} (hunks : List FileHunk) (bases : List ℕ) (image : List (ℕ × Vec ℕ A)) → IsLoadFile hunks → length image ≡ length hunks → All EndsInside (hunks_of image)
    → length (record_text hunks bases (hunks_of image)) < 2 ^ 64
record_text-fits hunks bases image is counted inside =
    let left_out = number_left_out hunks in
    let few : length (hunks_of image) < 2 ^ 16 = omega (arith, length-hunks_of image, counted, is.few) in
    length-parts-lt (line (codes "$$ amihunk")) (symbol_lines Records hunks bases) (line (codes "$$ ")) (left_out_text left_out) (image_text SRecords (hunks_of image))
    (omega arith) (symbol_lines-fit Records hunks bases is) (omega arith)
    (length-left_out_text-le left_out (omega (arith, number_left_out-fits hunks is))) (length-image_text-lt SRecords (hunks_of image) few inside)

-- ---- the image

pub length-loaded : {A : Type 0} (hunks : List FileHunk) (bases : List ℕ) (image : List (ℕ × Vec ℕ A)) → hunks_of image ≡ loaded hunks bases → Placed (sizes_of hunks) bases → length image ≡ length hunks
length-loaded hunks bases image made placed =
    let place : ℕ × FileHunk → ℕ × List ℕ = λ placed. (placed.0, loaded_bytes bases placed.1) in
    omega (
      arith,
      length-hunks_of image,
      ap length made,
      length-map (zip bases hunks) place,
      length-zip bases hunks,
      length-map hunks (λ (hunk : FileHunk). hunk.size),
      placed.one_base_each,
    )

pub inside-loaded : (hunks : List FileHunk) (bases : List ℕ) (image : List (ℕ × List ℕ)) → image ≡ loaded hunks bases → Placed (sizes_of hunks) bases → All EndsInside image
inside-loaded hunks bases image made placed = subst (All EndsInside) (sym made) (ends-loaded_from bases bases hunks placed.ends_within)

pub record_text-loaded : (hunks file : List FileHunk) (bases : List ℕ) (image : List (ℕ × List ℕ)) → hunks ≡ file → image ≡ loaded file bases → record_text hunks bases image ≡ symbols_text Records file bases
record_text-loaded hunks file bases image same made = ap₂ (λ h i. record_text h bases i) same made

-- ---- the lines of a hunk

pub hunk_symbol_lines-at : (form : SymbolForm) (bases : List ℕ) (number base : ℕ) (symbols : List (List ℕ × ℕ)) (hunk : FileHunk) → base ≡ slice_index bases number → symbols ≡ hunk.symbols
    → flat_map (symbol_line form number base) symbols ≡ hunk_symbol_lines form bases (number, hunk)
hunk_symbol_lines-at form bases number base symbols hunk base_is symbols_are = ap₂ (λ b xs. flat_map (symbol_line form number b) xs) base_is symbols_are

-- ---- what was read

-- If the file was not read, nothing was written.
pub IsFaultAt-unread : (A : Type 0) (text : List FileHunk → List ℕ → List ℕ) (bases : List ℕ) (left left_then : Option (List ℕ)) (failed ended : Bool) (taken : Option (List ℕ)) (write_failed : Bool) (fault : ReadFault)
    → RefusesRead Load left left_then ended failed fault → IsFaultAt {A = A} text bases (ends_of left left_then failed ended taken taken write_failed) (tool_fault_of_read 0 fault)
IsFaultAt-unread A text bases left left_then failed ended taken write_failed (read_fault.Refused (refusal_is.Fault fault)) (inl offends) =
    (refl, HasRead-weaker left left_then _ (IsRefused fault ended) (λ bytes here. inl here) offends, Keeps-refl taken)
IsFaultAt-unread A text bases left left_then failed ended taken write_failed (read_fault.Refused (refusal_is.Fault fault)) (inr (at_end, early)) =
    (refl, HasRead-weaker left left_then _ (IsRefused fault ended) (λ bytes here. inr (at_end, here)) early, Keeps-refl taken)
IsFaultAt-unread A text bases left left_then failed ended taken write_failed (read_fault.Refused refusal_is.OutOfMemory) is = (refl, Keeps-refl taken)
IsFaultAt-unread A text bases left left_then failed ended taken write_failed read_fault.Device is = (refl, is, Keeps-refl taken)

-- Where it was read: the text of its symbols was written, or why it was not.
pub IsWrittenAt-placed : {A : Type 0} (text : List FileHunk → List ℕ → List ℕ) (bases : List ℕ) (hunks : List FileHunk) (left left_then : Option (List ℕ)) (taken : Taken) (result : Result Unit A)
    → HasRead left left_then (IsLoadOf hunks) → OnOk result (IsPlacedText text hunks bases taken) → OnOk result (HasRead left left_then (IsWrittenAt text bases taken.old taken.new))
IsWrittenAt-placed text bases hunks left left_then taken (Ok done) read (placed, written) =
    HasRead-weaker left left_then _ (IsWrittenAt text bases taken.old taken.new) (λ bytes is. record { hunks = hunks; is_file = is; placed = placed; written = written }) read
IsWrittenAt-placed text bases hunks left left_then taken (Err fault) read is = is

pub IsFaultAt-placed : (A : Type 0) (text : List FileHunk → List ℕ → List ℕ) (bases : List ℕ) (hunks : List FileHunk) (ends : Ends) (fault : ToolFault A)
    → IsTrue ends.ended → HasRead ends.left ends.left_then (IsLoadOf hunks) → IsPlacedFault text hunks bases (record { old = ends.taken; new = ends.taken_then; failed = ends.write_failed }) fault
    → IsFaultAt text bases ends fault
IsFaultAt-placed A text bases hunks ends (tool_fault.Input file fault) at_end read is = absurd is
IsFaultAt-placed A text bases hunks ends (tool_fault.InputDevice file) at_end read is = absurd is
IsFaultAt-placed A text bases hunks ends (tool_fault.Link refusal) at_end read is = absurd is
IsFaultAt-placed A text bases hunks ends (tool_fault.Place fault) at_end read (first, keeps) = (
  at_end,
  HasRead-weaker ends.left ends.left_then _ (λ bytes. IsNotPlaced bases bytes fault) (λ bytes is. record { hunks = hunks; is_file = is; first = first }) read,
  keeps,
)
IsFaultAt-placed A text bases hunks ends (tool_fault.Output written) at_end read (placed, front, failed) = (
  at_end,
  HasRead-weaker ends.left ends.left_then _ (IsCutShortAt text bases ends.taken ends.taken_then written) (λ bytes is. record { hunks = hunks; is_file = is; placed = placed; front = front }) read,
  failed,
)
IsFaultAt-placed A text bases hunks ends (tool_fault.OutOfMemory written) at_end read is = is

-- ---- what was written of placed hunks

pub IsPlacedFault-written : (A : Type 0) {W : Type 0} (taken : W → Option (List ℕ)) (failed : W → Bool) (old new : W) (text : List FileHunk → List ℕ → List ℕ) (hunks : List FileHunk) (bases told : List ℕ) (fault : WriteFault)
    → Placed (sizes_of hunks) bases → told ≡ text hunks bases → IsDevice fault → WriteStopped taken failed old new told fault
    → IsPlacedFault {A = A} text hunks bases (record { old = taken old; new = taken new; failed = failed new }) (tool_fault_of_write fault)
IsPlacedFault-written A taken failed old new text hunks bases told (write_fault.Device written) placed is device stopped =
    (placed, subst (λ t. TookFront (taken old) (taken new) t written) is stopped.0, stopped.1)
IsPlacedFault-written A taken failed old new text hunks bases told (write_fault.OutOfMemory written) placed is device stopped = absurd device
