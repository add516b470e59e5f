-- One more object file, and why files do not link.
use Rattle.std.specs.Global.{Global}
use Rattle.std.proofs.Common.{◌≡◌, ℕ, ◌+◌, ◌<◌, List, [], ◌∷◌, ◌++◌, length, take, false, ◌≤◌, Some, Vec, get_or, Result, Ok, Err, IfErr, refl, sym, ap, subst, ◌∙◌}
use Rattle.std.proofs.lemmas.List.{append-nil, append_assoc, map-append, take-map, take_all, take_more}
use Rattle.std.proofs.lemmas.Option.{slice_get-get_or, slice_get-map}
use Rattle.std.specs.List.{All}
use Rattle.std.specs.Io.KnownBytes.{Appends}
use Rattle.std.specs.Option.{option_map}
use Rattle.hunk_words.specs.Decoder.{RefusesBytes, RefusesInput}
use Rattle.hunk_words.specs.FirstOffence.FirstOffence.{longword_offends}
use Rattle.hunk_words.specs.declared.event.FileKind.{FileKind}
use Rattle.hunk_words.specs.declared.event.FileKind.TheVariants.{Object}
use Rattle.hunk_base.specs.declared.fault.Fault.{Fault}
use Rattle.hunk_base.specs.declared.fault.Refusal.{Refusal}
use Rattle.hunk_base.specs.declared.fault.Refusal.TheVariants as refusal_is
use Rattle.hunk_objects.specs.ProgramUnit.{IsObjectOf, ObjectUnit}
use Rattle.hunk_loadfile.specs.LoadFile.{IsLoadOf}
use Rattle.hunk_loadfile.specs.LoadHunk.{FileHunk}
use Rattle.hunk_loadfile.specs.Rules.{IsLoadFile}
use Rattle.hunk_loadfile.specs.WrittenForm.{IsShortEnough, written_in}
use Rattle.hunk_loadfile.specs.declared.load_form.LoadForm.TheVariants.{Plain}
use Rattle.hunk_base.specs.Name.{bytes_of}
use Rattle.hunk_link.specs.Carried.{carried}
use Rattle.hunk_link.specs.Ranks.{IsUnit}
use Rattle.hunk_link.specs.Linkable.{IsLinkRefusal, Linkable}
use Rattle.hunk_link.specs.declared.refusal.LinkRefusal.{LinkRefusal}
use Rattle.hunk_link.specs.declared.refusal.LinkRefusal.TheVariants as link_refusal
use Rattle.hunk_tool.specs.Inputs.{AreObjects}
use Rattle.hunk_tool.specs.Link.{IsLinked, IsNotLinked as AreNotLinked}
use Rattle.hunk_tool.specs.ToolFault.{tool_fault_of_link}
use Rattle.hunk_tool.proofs.LinkLemmas.{linked_bytes-are_load}
use Rattle.hunk_uses.specs.Assembler.{IsNoObject, IsNotLinked, bytes_of_each, plain}

-- What holds of each error of which this holds, holds of the one that there is.
pub IfErr-weaker : {X Y : Type 0} (r : Result X Y) (P Q : Y → Type 0) → ((y : Y) → P y → Q y) → IfErr r P → IfErr r Q
IfErr-weaker (Ok x) P Q weaker holds = tt
IfErr-weaker (Err y) P Q weaker holds = weaker y holds

-- What is refused of the bytes is refused of the input.
pub RefusesInput-bytes : (kind : FileKind) (bytes : List ℕ) (refusal : Refusal) → RefusesBytes kind bytes refusal → RefusesInput kind bytes refusal
RefusesInput-bytes kind bytes (refusal_is.Fault fault) offends = longword_offends offends
RefusesInput-bytes kind bytes refusal_is.OutOfMemory offends = tt

AreObjects-more : (files : List (List ℕ)) (bytes : List ℕ) (units more : List ObjectUnit) → AreObjects files units → IsObjectOf more bytes → AreObjects (files ++ bytes ∷ []) (units ++ more)
AreObjects-more [] bytes units more none is = (more, [], is, refl, ap (λ (first : List ObjectUnit). first ++ more) none ∙ sym (append-nil more))
AreObjects-more (file ∷ files) bytes units more are is = (
  are.0,
  are.1 ++ more,
  are.2,
  AreObjects-more files bytes are.1 more are.3 is,
  ap (λ (all : List ObjectUnit). all ++ more) are.4 ∙ append_assoc are.0 are.1 more,
)

-- One more of the object files.
pub AreObjects-next : (objects : List (Vec ℕ Global)) (count : ℕ) (other : Vec ℕ Global) (units more : List ObjectUnit) → count < length objects
    → AreObjects (bytes_of_each (take count objects)) units → IsObjectOf more (get_or objects count other).items → AreObjects (bytes_of_each (take (count + 1) objects)) (units ++ more)
AreObjects-next objects count other units more within are is =
    let object : Vec ℕ Global = get_or objects count other in
    let files_are : bytes_of_each (take (count + 1) objects) ≡ bytes_of_each (take count objects) ++ object.items ∷ [] =
    ap bytes_of_each (take_more objects count other within) ∙ map-append (λ (file : Vec ℕ Global). file.items) (take count objects) (object ∷ []) in
    subst (λ files. AreObjects files (units ++ more)) (sym files_are) (AreObjects-more (bytes_of_each (take count objects)) object.items units more are is)

-- All of the object files.
pub AreObjects-all : (objects : List (Vec ℕ Global)) (count : ℕ) (units : List ObjectUnit) → length objects ≤ count → AreObjects (bytes_of_each (take count objects)) units → AreObjects (bytes_of_each objects) units
AreObjects-all objects count units past are = subst (λ files. AreObjects (bytes_of_each files) units) (take_all count objects past) are

-- The file behind those that are object files is none.
pub IsNoObject-next : (objects : List (Vec ℕ Global)) (count : ℕ) (object : Vec ℕ Global) (units : List ObjectUnit) (fault : Fault) → count < length objects → object ≡ get_or objects count object
    → AreObjects (bytes_of_each (take count objects)) units → RefusesInput Object object.items (refusal_is.Fault fault) → IsNoObject (bytes_of_each objects) count fault
IsNoObject-next objects count object units fault within is are refused =
    let items : Vec ℕ Global → List ℕ = λ file. file.items in
    record {
      bytes = object.items;
      is = slice_get-map items objects count ∙ ap (option_map items) (slice_get-get_or objects count object within ∙ ap Some (sym is));
      refused = refused;
      units = units;
      earlier = subst (λ files. AreObjects files units) (sym (take-map items count objects)) are;
    }

-- The bytes are the load file of the units.
pub IsLinked-written : (files : List (List ℕ)) (units : List ObjectUnit) (program : List FileHunk) (bytes : List ℕ) → AreObjects files units → All IsUnit units → Linkable units false
    → program ≡ carried units false → IsLoadFile program → IsShortEnough program → bytes ≡ bytes_of (written_in Plain program) → IsLinked false plain (Some []) (Some bytes) files
IsLinked-written files units program bytes are typed linkable program_is valid short bytes_are = record {
  units = units;
  link = record { are = are; typed = typed; linkable = linkable };
  is_load = subst (λ (hunks : List FileHunk). IsLoadOf hunks (bytes_of (written_in Plain hunks))) program_is (linked_bytes-are_load Plain false program valid short);
  written = subst (λ (hunks : List FileHunk). Appends (Some []) (Some bytes) (bytes_of (written_in Plain hunks))) program_is bytes_are;
}

-- The units of the files do not link.
pub IsNotLinked-refused : (files : List (List ℕ)) (units : List ObjectUnit) (refusal : LinkRefusal Global) → AreObjects files units → IsLinkRefusal units false refusal → IsNotLinked files (tool_fault_of_link refusal)
IsNotLinked-refused files units refusal are first = go refusal (record { units = units; are = are; first = first })
  where
    go : (refusal : LinkRefusal Global) → AreNotLinked false false refusal files → IsNotLinked files (tool_fault_of_link refusal)
    go link_refusal.OutOfMemory is = refl
    go link_refusal.NoHunks is = (is, λ same. cc)
    go link_refusal.TooManyHunks is = (is, λ same. cc)
    go link_refusal.TooLarge is = (is, λ same. cc)
    go (link_refusal.NoSuchHunk unit hunk target) is = (is, λ same. cc)
    go (link_refusal.DuplicateName unit hunk name) is = (is, λ same. cc)
    go (link_refusal.UndefinedName unit hunk name) is = (is, λ same. cc)
