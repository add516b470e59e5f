-- What holds of copies of load files.
use Rattle.std.proofs.Common.{◌≡◌, ◌∙◌, List, [], ◌∷◌, map, Bool, true, false, refl, sym, ap, subst, arith}
use Rattle.hunk_base.specs.Longwords.{longwords}
use Rattle.hunk_base.specs.Name.{bytes_of}
use Rattle.hunk_loadfile.specs.LoadFile.{IsLoadOf}
use Rattle.hunk_loadfile.specs.LoadHunk.{FileHunk}
use Rattle.hunk_loadfile.specs.Meaning.{meaning}
use Rattle.hunk_loadfile.specs.NormalForm.{normal_form}
use Rattle.hunk_loadfile.specs.Rules.{carried_longwords}
use Rattle.hunk_loadfile.specs.Stripping.{stripped}
use Rattle.hunk_loadfile.specs.WrittenForm.{written_form, written_in}
use Rattle.hunk_loadfile.proofs.LoadFileLemmas.{one-load}
use Rattle.hunk_loadfile.proofs.MeaningLemmas.{normal-means_the_same, normal-once, stripped-means_the_same, stripped-once, stripped_and_trimmed-once, trimmed-means_the_same, trimmed-once}
use Rattle.hunk_loadfile.proofs.NormalMeaningLemmas.{one-normal_form}
use Rattle.hunk_loader.specs.Loading.{loaded}
use Rattle.hunk_loader.specs.Sizes.{sizes_of}
use Rattle.hunk_loader.proofs.LoadingLemmas.{loaded-normal, loaded-stripped, loaded-trimmed, sizes_of-normal, sizes_of-stripped, sizes_of-trimmed}
use Rattle.hunk_tool.specs.Copy.{CopyFits, copied, copied_bytes, form_of_copy, stripped_if}
use Rattle.hunk_tool.specs.CopyLaws.{CopiedOnce, CopyHasSizes, CopyIsLoad, CopyIsLoaded, CopyIsOneLoad, CopyMeansTheSame, NormalBytesTellMeaning}
use Rattle.hunk_tool.specs.LinkOptions.{trimmed_if}
use Rattle.hunk_tool.specs.declared.copy.CopyForm.{CopyForm}
use Rattle.hunk_tool.specs.declared.copy.CopyForm.TheVariants.{Written, Normal}
use Rattle.hunk_tool.proofs.CopyLemmas.{copied_bytes-are_load}

-- ---- read back

pub copy-is_load : CopyIsLoad
copy-is_load form hunks is fits = copied_bytes-are_load form hunks is fits

pub copy-is_one_load : CopyIsOneLoad
copy-is_one_load form hunks other is fits read =
    one-load other (copied form hunks) (longwords (copied_bytes form hunks)) read.is_load (copied_bytes-are_load form hunks is fits).is_load

-- ---- what a change of hunks keeps

module _ {X : Type 0} (kept : List FileHunk → X) (stripped-keeps : (hunks : List FileHunk) → kept (stripped hunks) ≡ kept hunks)
    (trimmed-keeps : (hunks : List FileHunk) → kept (trimmed_if true hunks) ≡ kept hunks) (normal-keeps : (hunks : List FileHunk) → kept (normal_form hunks) ≡ kept hunks) where
  stripped_if-keeps : (strip : Bool) (hunks : List FileHunk) → kept (stripped_if strip hunks) ≡ kept hunks
  stripped_if-keeps true hunks = stripped-keeps hunks
  stripped_if-keeps false hunks = refl

  trimmed_if-keeps : (trim : Bool) (hunks : List FileHunk) → kept (trimmed_if trim hunks) ≡ kept hunks
  trimmed_if-keeps true hunks = trimmed-keeps hunks
  trimmed_if-keeps false hunks = refl

  copied-keeps : (form : CopyForm) (hunks : List FileHunk) → kept (copied form hunks) ≡ kept hunks
  copied-keeps (Written options) hunks = trimmed_if-keeps options.trim (stripped_if options.strip hunks) ∙ stripped_if-keeps options.strip hunks
  copied-keeps Normal hunks = normal-keeps hunks

pub copy-means_the_same : CopyMeansTheSame
copy-means_the_same = copied-keeps (map meaning) stripped-means_the_same trimmed-means_the_same normal-means_the_same

pub copy-is_loaded : CopyIsLoaded
copy-is_loaded form hunks bases =
    copied-keeps (λ hs. loaded hs bases) (λ hs. loaded-stripped bases bases hs) (λ hs. loaded-trimmed bases bases hs) (λ hs. loaded-normal bases bases hs) form hunks

pub copy-has_sizes : CopyHasSizes
copy-has_sizes = copied-keeps sizes_of sizes_of-stripped sizes_of-trimmed sizes_of-normal

-- ---- a second copy

written-once : (strip trim : Bool) (hunks : List FileHunk) → trimmed_if trim (stripped_if strip (trimmed_if trim (stripped_if strip hunks))) ≡ trimmed_if trim (stripped_if strip hunks)
written-once true true hunks = stripped_and_trimmed-once hunks
written-once true false hunks = stripped-once hunks
written-once false true hunks = trimmed-once hunks
written-once false false hunks = refl

copied_hunks-once : (form : CopyForm) (hunks : List FileHunk) → copied form (copied form hunks) ≡ copied form hunks
copied_hunks-once (Written options) hunks = written-once options.strip options.trim hunks
copied_hunks-once Normal hunks = normal-once hunks

pub copied-once : CopiedOnce
copied-once form hunks = ap (λ hs. bytes_of (written_in (form_of_copy form) hs)) (copied_hunks-once form hunks)

-- ---- normal forms

carried_longwords-normal : (hunks : List FileHunk) → carried_longwords (normal_form hunks) ≡ 0
carried_longwords-normal [] = refl
carried_longwords-normal (hunk ∷ hunks) = omega (arith, carried_longwords-normal hunks)

normal-fits : (hunks : List FileHunk) → CopyFits Normal hunks
normal-fits hunks = omega (arith, carried_longwords-normal hunks)

pub normal_bytes-tell_meaning : NormalBytesTellMeaning
normal_bytes-tell_meaning first second one other = (
  λ same.
      let told = copied_bytes-are_load Normal second other (normal-fits second) in
      let hunks : normal_form first ≡ normal_form second =
      sym (copy-is_one_load Normal first (normal_form second) one (normal-fits first) (subst (IsLoadOf (normal_form second)) (sym same) told)) in
      (one-normal_form first second one other).0 (ap written_form hunks),
  λ same. ap bytes_of ((one-normal_form first second one other).1 same),
)
