-- One more input, and what a linker tells of its inputs.
use Rattle.std.specs.Global.{Global}
use Rattle.std.proofs.Common.{◌≡◌, ℕ, ◌+◌, List, [], ◌∷◌, ◌++◌, length, Bool, true, false, Vec, Option, Some, None, ap, ap₂, refl, sym, subst, ◌∙◌, arith, zero-add}
use Rattle.std.proofs.lemmas.List.{append-nil, append_assoc, length-append, map-append}
use Rattle.std.specs.Io.KnownBytes.{Appends}
use Rattle.std.specs.List.{All}
use Rattle.hunk_words.specs.Decoder.{refusal_of}
use Rattle.hunk_base.specs.Name.{bytes_of}
use Rattle.hunk_words.specs.declared.decoder.Decoder.{Decoder}
use Rattle.hunk_objects.specs.ObjectDecoder.{StandsFor}
use Rattle.hunk_objects.specs.ProgramUnit.{IsObjectOf, ObjectUnit}
use Rattle.hunk_objects.specs.declared.unit_builder.UnitBuilder.{UnitBuilder}
use Rattle.hunk_loadfile.specs.LoadFile.{IsLoadOf}
use Rattle.hunk_loadfile.specs.LoadHunk.{FileHunk}
use Rattle.hunk_loadfile.specs.WrittenForm.{written_in}
use Rattle.hunk_link.specs.Carried.{carried}
use Rattle.hunk_link.specs.Linkable.{IsLinkRefusal, Linkable}
use Rattle.hunk_link.specs.Ranks.{IsUnit}
use Rattle.hunk_link.specs.declared.refusal.LinkRefusal.{LinkRefusal}
use Rattle.hunk_link.specs.declared.refusal.LinkRefusal.TheVariants as link
use Rattle.hunk_tool.specs.Inputs.{AreObjects}
use Rattle.hunk_tool.specs.Link.{IsLinked}
use Rattle.hunk_tool.specs.LinkOptions.{form_of, trimmed_if}
use Rattle.hunk_tool.specs.ObjectFiles.{AreFileUnits, FileUnit, placed, units_of}
use Rattle.hunk_origins.specs.UndefinedName.{UndefinedName}
use Rattle.hunk_tool.specs.declared.link_options.LinkOptions.{LinkOptions}
use Rattle.hunk_tool.proofs.ObjectFilesLemmas.{AreUnitsFrom-more, units_of-placed}
use Rattle.amihunk_c.specs.Linkers.{AreInputs, AreTaken, HasTaken, IsLinkStop, IsUndefined, Reads, TellsNames}
use Rattle.amihunk_c.specs.Refusals.{link_refused, memory_refused}
use Rattle.amihunk_c.specs.declared.linker.Linker.{Linker}
use Rattle.amihunk_c.specs.declared.linker.LinkerOptions.{LinkerOptions}

-- ---- inputs

pub length-AreInputs : (first : ℕ) (files : List (List ℕ)) (units : List ObjectUnit) (ends : List ℕ) → AreInputs first files units ends → length files ≡ length ends
length-AreInputs first [] units ends are = sym (ap length are.1)
length-AreInputs first (bytes ∷ files) units ends are = omega (arith, length-AreInputs (first + length are.0) files are.1 are.2 are.4, ap length are.6)

AreInputs-more : (first : ℕ) (files : List (List ℕ)) (bytes : List ℕ) (units more : List ObjectUnit) (ends : List ℕ) → AreInputs first files units ends → IsObjectOf more bytes
    → AreInputs first (files ++ bytes ∷ []) (units ++ more) (ends ++ (first + length (units ++ more)) ∷ [])
AreInputs-more first [] bytes units more ends are is = (
  more,
  [],
  [],
  is,
  (refl, refl),
  ap (λ (us : List ObjectUnit). us ++ more) are.0 ∙ sym (append-nil more),
  ap₂ (λ (es : List ℕ) (us : List ObjectUnit). es ++ (first + length (us ++ more)) ∷ []) are.1 are.0,
)
AreInputs-more first (file ∷ files) bytes units more ends are is =
    let own = are.0 in let others = are.1 in let later = are.2 in
    let total : first + length (units ++ more) ≡ first + length own + length (others ++ more) =
    omega (arith, ap length are.5, length-append own others, length-append units more, length-append others more) in (
      own,
      others ++ more,
      later ++ (first + length own + length (others ++ more)) ∷ [],
      are.3,
      AreInputs-more (first + length own) files bytes others more later are.4 is,
      ap (λ (us : List ObjectUnit). us ++ more) are.5 ∙ append_assoc own others more,
      ap₂ (λ (es : List ℕ) (n : ℕ). es ++ n ∷ []) are.6 total,
    )

AreInputs-objects : (first : ℕ) (files : List (List ℕ)) (units : List ObjectUnit) (ends : List ℕ) → AreInputs first files units ends → AreObjects files units
AreInputs-objects first [] units ends are = are.0
AreInputs-objects first (bytes ∷ files) units ends are = (are.0, are.1, are.3, AreInputs-objects (first + length are.0) files are.1 are.2 are.4, are.5)

-- ---- what was taken

-- the units of one more file, with its number
units_of-more : (units : List FileUnit) (number : ℕ) (more : List ObjectUnit) → units_of (units ++ placed number more) ≡ units_of units ++ more
units_of-more units number more =
    let unit : FileUnit → ObjectUnit = λ u. u.1 in
    map-append unit units (placed number more) ∙ ap (λ (us : List ObjectUnit). units_of units ++ us) (units_of-placed number more)

AreTaken-more : (files : List (List ℕ)) (bytes : List ℕ) (units : List FileUnit) (more : List ObjectUnit) (ends : List ℕ) (number : ℕ) → number ≡ length files → AreTaken files units ends → IsObjectOf more bytes
    → AreTaken (files ++ bytes ∷ []) (units ++ placed number more) (ends ++ length (units_of (units ++ placed number more)) ∷ [])
AreTaken-more files bytes units more ends number counted taken is = record {
  are = subst (λ n. AreFileUnits (units ++ placed n more) (files ++ bytes ∷ [])) (omega (arith, counted)) (AreUnitsFrom-more 0 files bytes units more taken.are is);
  inputs = subst (λ (us : List ObjectUnit). AreInputs 0 (files ++ bytes ∷ []) us (ends ++ length us ∷ [])) (sym (units_of-more units number more))
      (subst (λ n. AreInputs 0 (files ++ bytes ∷ []) (units_of units ++ more) (ends ++ n ∷ [])) (zero-add (length (units_of units ++ more))) (AreInputs-more 0 files bytes (units_of units) more ends taken.inputs is));
}

pub AreTaken-objects : (files : List (List ℕ)) (units : List FileUnit) (ends : List ℕ) → AreTaken files units ends → AreObjects files (units_of units)
AreTaken-objects files units ends taken = AreInputs-objects 0 files (units_of units) ends taken.inputs

pub HasTaken-fed : (options : LinkerOptions) (files : List (List ℕ)) (current : Option (List ℕ)) (old mid : Linker) (decoder : Decoder (UnitBuilder Global)) (bytes : List ℕ)
    → mid ≡ record old { current = None } → HasTaken options files current old → StandsFor decoder bytes → refusal_of decoder ≡ None
    → HasTaken options files (Some bytes) (record mid { current = Some decoder })
HasTaken-fed options files current old mid decoder bytes rest has stands none = record {
  options_are = ap (λ (l : Linker). l.options) rest ∙ has.options_are;
  taken = subst (λ (l : Linker). AreTaken files l.files l.ends.items) (sym rest) has.taken;
  reads = (stands, none);
}

pub HasTaken-ended : (options : LinkerOptions) (files : List (List ℕ)) (current : Option (List ℕ)) (old new : Linker) (more : List ObjectUnit) (bytes : List ℕ)
    → new.options ≡ old.options → new.files ≡ old.files ++ placed (length old.ends.items) more → new.ends.items ≡ old.ends.items ++ length (units_of new.files) ∷ [] → new.current ≡ None
    → HasTaken options files current old → IsObjectOf more bytes → HasTaken options (files ++ bytes ∷ []) None new
HasTaken-ended options files current old new more bytes same units ends none has is =
    let number : ℕ = length old.ends.items in
    let counted : number ≡ length files = sym (length-AreInputs 0 files (units_of old.files) old.ends.items has.taken.inputs) in
    record {
      options_are = same ∙ has.options_are;
      taken = subst (λ (es : List ℕ). AreTaken (files ++ bytes ∷ []) new.files es) (sym ends)
          (subst (λ (us : List FileUnit). AreTaken (files ++ bytes ∷ []) us (old.ends.items ++ length (units_of us) ∷ [])) (sym units)
          (AreTaken-more files bytes old.files more old.ends.items number counted has.taken is));
      reads = subst (λ (decoder : Option (Decoder (UnitBuilder Global))). Reads None decoder) (sym none) tt;
    }

-- ---- the link

module _ (files : List (List ℕ)) (units : List FileUnit) (us : List ObjectUnit) (ends : List ℕ) (same : us ≡ units_of units) (taken : AreTaken files units ends) where
  objects : AreObjects files us
  objects = subst (AreObjects files) (sym same) (AreTaken-objects files units ends taken)

  pub IsLinked-taken : (options : LinkOptions) (linked : List FileHunk) (bytes : List ℕ) → All IsUnit us → Linkable us options.strip → linked ≡ carried us options.strip
      → IsLoadOf (trimmed_if options.trim linked) (bytes_of (written_in (form_of options) (trimmed_if options.trim linked)))
      → bytes ≡ bytes_of (written_in (form_of options) (trimmed_if options.trim linked)) → IsLinked false options (Some []) (Some bytes) files
  unfolding objects
  IsLinked-taken options linked bytes typed linkable linked_is load bytes_are = record {
    units = us;
    link = record { are = objects; typed = typed; linkable = linkable };
    is_load = subst (λ (hunks : List FileHunk). IsLoadOf (trimmed_if options.trim hunks) (bytes_of (written_in (form_of options) (trimmed_if options.trim hunks)))) linked_is load;
    written = subst (λ (hunks : List FileHunk). Appends (Some []) (Some bytes) (bytes_of (written_in (form_of options) (trimmed_if options.trim hunks)))) linked_is bytes_are;
  }

  -- The units are linked, but their load file was not written: an allocation failed.
  pub IsLinkStop-memory : (options : LinkerOptions) → IsLinkRefusal {A = Global} us options.link.strip link.OutOfMemory → IsLinkStop options files memory_refused memory_refused.fault
  IsLinkStop-memory options first = (record { units = us; are = objects; first = first }, refl)

  -- memory ran out while they were linked, so no names are told
  no_names : (keep : Bool) (told : Option (Vec UndefinedName Global)) → TellsNames keep files link.OutOfMemory told → told ≡ None
  no_names true told tells = tells.2
  no_names false told tells = tells

  pub IsLinkStop-refused : (options : LinkerOptions) (refusal : LinkRefusal Global) (told : Option (Vec UndefinedName Global)) → IsLinkRefusal us options.link.strip refusal → TellsNames options.keep files refusal told
      → IsLinkStop options files (record (link_refused refusal ends) { undefined = told }) (link_refused refusal ends).fault
  unfolding objects no_names
  IsLinkStop-refused options link.OutOfMemory told first names =
      (record { units = us; are = objects; first = first }, ap (λ (t : Option (Vec UndefinedName Global)). record memory_refused { undefined = t }) (no_names options.keep told names))
  IsLinkStop-refused options link.NoHunks told first names = (record { units = us; are = objects; first = first }, λ same. cc, record { units = units_of units; ends = ends; inputs = taken.inputs; told = refl }, names)
  IsLinkStop-refused options link.TooManyHunks told first names = (record { units = us; are = objects; first = first }, λ same. cc, record { units = units_of units; ends = ends; inputs = taken.inputs; told = refl }, names)
  IsLinkStop-refused options link.TooLarge told first names = (record { units = us; are = objects; first = first }, λ same. cc, record { units = units_of units; ends = ends; inputs = taken.inputs; told = refl }, names)
  IsLinkStop-refused options (link.NoSuchHunk unit hunk target) told first names = (record { units = us; are = objects; first = first }, λ same. cc, record { units = units_of units; ends = ends; inputs = taken.inputs; told = refl }, names)
  IsLinkStop-refused options (link.DuplicateName unit hunk name) told first names = (record { units = us; are = objects; first = first }, λ same. cc, record { units = units_of units; ends = ends; inputs = taken.inputs; told = refl }, names)
  IsLinkStop-refused options (link.UndefinedName unit hunk name) told first names = (record { units = us; are = objects; first = first }, λ same. cc, record { units = units_of units; ends = ends; inputs = taken.inputs; told = refl }, names)

-- ---- refusals

-- one that tells no names
pub link_refused-plain : (refusal : LinkRefusal Global) (ends : List ℕ) → record (link_refused refusal ends) { undefined = None } ≡ link_refused refusal ends
link_refused-plain link.OutOfMemory ends = refl
link_refused-plain link.NoHunks ends = refl
link_refused-plain link.TooManyHunks ends = refl
link_refused-plain link.TooLarge ends = refl
link_refused-plain (link.NoSuchHunk unit hunk target) ends = refl
link_refused-plain (link.DuplicateName unit hunk name) ends = refl
link_refused-plain (link.UndefinedName unit hunk name) ends = refl

-- Memory may run out where a name is not defined.
pub memory-undefined : (us : List ObjectUnit) (strip : Bool) (refusal : LinkRefusal Global) → IsUndefined refusal → IsLinkRefusal us strip refusal → IsLinkRefusal {A = Global} us strip link.OutOfMemory
memory-undefined us strip (link.UndefinedName unit hunk name) is first = (first.0, first.1)
memory-undefined us strip link.OutOfMemory is first = absurd is
memory-undefined us strip link.NoHunks is first = absurd is
memory-undefined us strip link.TooManyHunks is first = absurd is
memory-undefined us strip link.TooLarge is first = absurd is
memory-undefined us strip (link.NoSuchHunk unit hunk target) is first = absurd is
memory-undefined us strip (link.DuplicateName unit hunk name) is first = absurd is
