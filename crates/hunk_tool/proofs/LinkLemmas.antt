-- The written forms of a load file are the bytes of one, and what a fault of linking says.
use Rattle.std.proofs.Common.{◌≡◌, ◌∙◌, ℕ, ◌/◌, ◌^◌, ◌<◌, ◌≤◌, inl, inr, List, [], ◌∷◌, length, Option, Bool, true, false, ap, ap₂, refl, sym, subst, arith}
use Rattle.std.specs.Io.KnownBytes.{Appends}
use Rattle.std.specs.List.{All}
use Rattle.std.proofs.KnownBytes.{Keeps-refl}
use Rattle.std.proofs.lemmas.List.{length-map}
use Rattle.std.proofs.lemmas.List.Elements.{All-from_recursion}
use Rattle.hunk_base.specs.Longwords.{AllLong}
use Rattle.hunk_words.specs.Files.{IsFileOf, most_longwords}
use Rattle.hunk_words.specs.Kinds.{Kind, Width, bound, width}
use Rattle.hunk_words.specs.Kinds.Width.{long, half}
use Rattle.hunk_words.specs.Machine.{due}
use Rattle.hunk_base.specs.Name.{bytes_of}
use Rattle.hunk_words.specs.Reading.{Reads, WordPasses, word_next}
use Rattle.hunk_base.specs.Streams.{TookFront, WriteStopped}
use Rattle.hunk_words.specs.Trees.{LoadTree}
use Rattle.hunk_words.specs.declared.event.FileKind.TheVariants.{Load}
use Rattle.hunk_base.specs.declared.fault.WriteFault.{WriteFault}
use Rattle.hunk_base.specs.declared.fault.WriteFault.TheVariants as write_fault
use Rattle.hunk_words.proofs.FilesPrefixLemmas.{end_of, spelling-read, start}
use Rattle.hunk_base.proofs.LongwordsByteLemmas.{bytes_of-IsWhole, longwords-bytes_of}
use Rattle.hunk_objects.specs.ProgramUnit.{ObjectUnit}
use Rattle.hunk_loadfile.specs.LoadFile.{IsLoad, IsLoadOf}
use Rattle.hunk_loadfile.specs.Trimming.{trimmed, trimmed_hunk}
use Rattle.hunk_loadfile.specs.declared.load_form.LoadForm.{LoadForm}
use Rattle.hunk_loadfile.specs.LoadHunk.{FileHunk}
use Rattle.hunk_loadfile.specs.Rules.{IsLoadFile}
use Rattle.hunk_loadfile.specs.WrittenForm.{IsShortEnough, written_in}
use Rattle.hunk_loadfile.proofs.WrittenFormLemmas.{written_in-is_load}
use Rattle.hunk_link.specs.Carried.{carried}
use Rattle.hunk_link.specs.Ranks.{IsUnit}
use Rattle.hunk_link.specs.Linkable.{IsLinkRefusal, Linkable}
use Rattle.hunk_link.specs.declared.refusal.LinkRefusal.{LinkRefusal}
use Rattle.hunk_link.specs.declared.refusal.LinkRefusal.TheVariants as link_refusal
use Rattle.hunk_tool.specs.Inputs.{AreObjects, HaveRead, Input, IsInputFault}
use Rattle.hunk_tool.specs.Link.{DoLink, IsLinkCutShort, IsLinkFault, IsLinked, IsNotLinked, IsUnlinked, LinkTo}
use Rattle.hunk_tool.specs.LinkOptions.{form_of, trimmed_if}
use Rattle.hunk_tool.specs.LinkedUnits.{linked_units, strips}
use Rattle.hunk_tool.specs.declared.link_options.LinkOptions.{LinkOptions}
use Rattle.hunk_tool.specs.ToolFault.{tool_fault_of_link, tool_fault_of_write}
use Rattle.hunk_tool.specs.declared.tool_fault.ToolFault.{ToolFault}
use Rattle.hunk_tool.specs.declared.tool_fault.ToolFault.TheVariants as tool_fault
use Rattle.hunk_tool.proofs.InputsLemmas.{HaveRead-weaker}

-- ---- the bytes

word-long : (w : Width) (stack : List Kind) (word : ℕ) → width (due stack) ≡ w → WordPasses w stack word → word < 2 ^ 32
word-long long stack word is passes = let fits : word < bound long = subst (λ w. word < bound w) is passes.fits in omega arith
word-long (half h) stack word is passes =
    let fits : word / 2 ^ 16 < bound (half h) = subst (λ w. word / 2 ^ 16 < bound w) is passes.0.fits in omega arith

reads-long : (stack : List Kind) (words : List ℕ) (after : List Kind) → Reads stack words after → AllLong words
reads-long stack [] after reads = tt
reads-long stack (word ∷ words) after reads =
    (word-long (width (due stack)) stack word refl reads.0, reads-long (word_next (width (due stack)) stack word) words after reads.1)

-- A load file is longwords.
long-load : (tree : LoadTree) (words : List ℕ) → IsFileOf Load tree words → AllLong words
long-load tree words file = reads-long (start Load) words (end_of Load) (subst (λ spelled. Reads (start Load) spelled (end_of Load)) file.spelled (spelling-read Load tree file.fits))

pub written_bytes-are_load : (form : LoadForm) (hunks : List FileHunk) → IsLoadFile hunks → length (written_in form hunks) ≤ most_longwords → IsLoadOf hunks (bytes_of (written_in form hunks))
written_bytes-are_load form hunks valid short =
    let words = written_in form hunks in
    let is = written_in-is_load form hunks valid short in
    let all : All (λ w. w < 2 ^ 32) words = All-from_recursion (λ w. w < 2 ^ 32) words (long-load is.tree words is.is_file) in
    record { whole = bytes_of-IsWhole words; is_load = subst (IsLoad hunks) (sym (longwords-bytes_of words all)) is }

-- trimmed or not, as the options say
pub linked_bytes-are_load : (form : LoadForm) (trim : Bool) (hunks : List FileHunk) → IsLoadFile (trimmed_if trim hunks) → IsShortEnough hunks → IsLoadOf (trimmed_if trim hunks) (bytes_of (written_in form (trimmed_if trim hunks)))
linked_bytes-are_load form true hunks valid short = written_bytes-are_load form (trimmed hunks) valid (short form).1
linked_bytes-are_load form false hunks valid short = written_bytes-are_load form hunks valid (short form).0

-- the form and the file that the options choose
pub bytes-chosen : (options : LinkOptions) (file hunks : List FileHunk) (form : LoadForm) → form ≡ form_of options → hunks ≡ trimmed_if options.trim file
    → bytes_of (written_in form hunks) ≡ bytes_of (written_in (form_of options) (trimmed_if options.trim file))
bytes-chosen options file hunks form form_is hunks_are = ap₂ (λ f hs. bytes_of (written_in f hs)) form_is hunks_are

-- ---- the load file of inputs

-- The units link as they are linked.
pub DoLink-as : (globals strip : Bool) (units linked : List ObjectUnit) (how : Bool) → linked ≡ linked_units globals strip units → how ≡ strips globals strip
    → (files : List (List ℕ)) → AreObjects files units → All IsUnit linked → Linkable linked how → DoLink globals strip files units
DoLink-as globals strip units linked how linked_are how_is files are typed linkable = record {
  are = are;
  typed = subst (All IsUnit) linked_are typed;
  linkable = subst (λ h. Linkable (linked_units globals strip units) h) how_is (subst (λ (us : List ObjectUnit). Linkable us how) linked_are linkable);
}

pub HaveRead-link_to : (inputs : List Input) (globals strip : Bool) (units linked : List ObjectUnit) (how : Bool) (file : List FileHunk) → linked ≡ linked_units globals strip units → how ≡ strips globals strip
    → HaveRead inputs (λ files. AreObjects files units) → All IsUnit linked → Linkable linked how → file ≡ carried linked how → HaveRead inputs (LinkTo globals strip file)
HaveRead-link_to inputs globals strip units linked how file linked_are how_is read typed linkable is =
    HaveRead-weaker inputs (λ files. AreObjects files units) (LinkTo globals strip file)
    (λ files are. record { units = units; link = DoLink-as globals strip units linked how linked_are how_is files are typed linkable; file_is = is ∙ ap₂ carried linked_are how_is }) read

pub IsLinked-written : (inputs : List Input) (globals : Bool) (options : LinkOptions) (file : List FileHunk) (old new : Option (List ℕ)) → HaveRead inputs (LinkTo globals options.strip file)
    → IsLoadFile (trimmed_if options.trim file) → IsShortEnough file → Appends old new (bytes_of (written_in (form_of options) (trimmed_if options.trim file))) → HaveRead inputs (IsLinked globals options old new)
IsLinked-written inputs globals options file old new read valid short written =
    HaveRead-weaker inputs (LinkTo globals options.strip file) (IsLinked globals options old new) (λ files to. record {
      units = to.units;
      link = to.link;
      is_load = subst (λ hunks. IsLoadOf (trimmed_if options.trim hunks) (bytes_of (written_in (form_of options) (trimmed_if options.trim hunks)))) to.file_is (linked_bytes-are_load (form_of options) options.trim file valid short);
      written = subst (λ hunks. Appends old new (bytes_of (written_in (form_of options) (trimmed_if options.trim hunks)))) to.file_is written;
    }) read

-- ---- faults

pub IsUnlinked-read : {A : Type 0} (globals strip : Bool) (inputs : List Input) (fault : ToolFault A) → IsInputFault inputs fault → IsUnlinked globals strip inputs fault
IsUnlinked-read globals strip inputs (tool_fault.Input file fault) is = is
IsUnlinked-read globals strip inputs (tool_fault.InputDevice file) is = is
IsUnlinked-read globals strip inputs (tool_fault.Link refusal) is = absurd is
IsUnlinked-read globals strip inputs (tool_fault.Place fault) is = is
IsUnlinked-read globals strip inputs (tool_fault.Output written) is = is
IsUnlinked-read globals strip inputs (tool_fault.OutOfMemory written) is = is

-- The units that were read do not link.
pub IsUnlinked-link : {A : Type 0} (globals strip : Bool) (inputs : List Input) (units linked : List ObjectUnit) (how : Bool) (refusal : LinkRefusal A) → linked ≡ linked_units globals strip units → how ≡ strips globals strip
    → HaveRead inputs (λ files. AreObjects files units) → IsLinkRefusal linked how refusal → IsUnlinked globals strip inputs (tool_fault_of_link refusal)
IsUnlinked-link {A = A} globals strip inputs units linked how refusal linked_are how_is read first =
    let first_as : IsLinkRefusal (linked_units globals strip units) (strips globals strip) refusal =
    subst (λ h. IsLinkRefusal (linked_units globals strip units) h refusal) how_is (subst (λ (us : List ObjectUnit). IsLinkRefusal us how refusal) linked_are first) in
    go refusal (HaveRead-weaker inputs (λ files. AreObjects files units) (IsNotLinked globals strip refusal) (λ files are. record { units = units; are = are; first = first_as }) read)
  where
    go : (refusal : LinkRefusal A) → HaveRead inputs (IsNotLinked globals strip refusal) → IsUnlinked globals strip inputs (tool_fault_of_link refusal)
    go link_refusal.OutOfMemory is = refl
    go link_refusal.NoHunks is = (is, λ same. cc)
    go link_refusal.TooManyHunks is = (is, λ same. cc)
    go link_refusal.TooLarge is = (is, λ same. cc)
    go (link_refusal.NoSuchHunk unit hunk target) is = (is, λ same. cc)
    go (link_refusal.DuplicateName unit hunk name) is = (is, λ same. cc)
    go (link_refusal.UndefinedName unit hunk name) is = (is, λ same. cc)

-- Then nothing was written.
pub IsLinkFault-unlinked : {A : Type 0} (globals : Bool) (options : LinkOptions) (inputs : List Input) (taken : Option (List ℕ)) (failed : Bool) (fault : ToolFault A)
    → IsUnlinked globals options.strip inputs fault → IsLinkFault globals options inputs (record { old = taken; new = taken; failed = failed }) fault
IsLinkFault-unlinked globals options inputs taken failed (tool_fault.Input file fault) is = (is, Keeps-refl taken)
IsLinkFault-unlinked globals options inputs taken failed (tool_fault.InputDevice file) is = (is, Keeps-refl taken)
IsLinkFault-unlinked globals options inputs taken failed (tool_fault.Link refusal) is = (is, Keeps-refl taken)
IsLinkFault-unlinked globals options inputs taken failed (tool_fault.Place fault) is = absurd is
IsLinkFault-unlinked globals options inputs taken failed (tool_fault.Output written) is = absurd is
IsLinkFault-unlinked globals options inputs taken failed (tool_fault.OutOfMemory written) is = inl (is, Keeps-refl taken)

cut_short : (inputs : List Input) (globals : Bool) (options : LinkOptions) (file : List FileHunk) (old new : Option (List ℕ)) (written : ℕ) → HaveRead inputs (LinkTo globals options.strip file)
    → TookFront old new (bytes_of (written_in (form_of options) (trimmed_if options.trim file))) written → HaveRead inputs (IsLinkCutShort globals options old new written)
cut_short inputs globals options file old new written read front =
    HaveRead-weaker inputs (LinkTo globals options.strip file) (IsLinkCutShort globals options old new written) (λ files to. record {
      units = to.units;
      link = to.link;
      front = subst (λ hunks. TookFront old new (bytes_of (written_in (form_of options) (trimmed_if options.trim hunks))) written) to.file_is front;
    }) read

-- Where writing the load file stopped.
pub IsLinkFault-written : (A : Type 0) {W : Type 0} (taken : W → Option (List ℕ)) (failed : W → Bool) (old new : W) (globals : Bool) (options : LinkOptions) (inputs : List Input) (file : List FileHunk) (fault : WriteFault)
    → HaveRead inputs (LinkTo globals options.strip file) → WriteStopped taken failed old new (bytes_of (written_in (form_of options) (trimmed_if options.trim file))) fault
    → IsLinkFault globals options inputs (record { old = taken old; new = taken new; failed = failed new }) (tool_fault_of_write {A = A} fault)
IsLinkFault-written A taken failed old new globals options inputs file (write_fault.Device written) read stopped = (cut_short inputs globals options file (taken old) (taken new) written read stopped.0, stopped.1)
IsLinkFault-written A taken failed old new globals options inputs file (write_fault.OutOfMemory written) read stopped = inr (cut_short inputs globals options file (taken old) (taken new) written read stopped.0)

-- ---- trimming

pub length-trimmed_if : (trim : Bool) (linked file : List FileHunk) → file ≡ trimmed_if trim linked → length linked ≡ length file
length-trimmed_if true linked file is = sym (ap (λ (hunks : List FileHunk). length hunks) is ∙ length-map linked trimmed_hunk)
length-trimmed_if false linked file is = sym (ap (λ (hunks : List FileHunk). length hunks) is)
