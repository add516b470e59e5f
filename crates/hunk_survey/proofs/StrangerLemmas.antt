-- Which of the files that are refused begin as hunk files do.
use Rattle.std.proofs.Common.{◌≡◌, ◌∙◌, ◌==◌, ◌||◌, inl, inr, ℕ, suc, List, [], ◌∷◌, ◌++◌, length, Bool, true, false, nat_lt, Some, ap, refl, sym, subst, arith, if◌then◌else◌}
use Rattle.std.proofs.lemmas.Bool.{cases_Bool, lt-ltb, true≢false}
use Rattle.hunk_base.specs.Longwords.{longwords}
use Rattle.hunk_base.specs.declared.fault.Reason.{Reason}
use Rattle.hunk_words.specs.Files.{Fits, IsFile, IsValidPrefix, Tree, longwords_spelled, spelling}
use Rattle.hunk_words.specs.FirstOffence.{Blames, IsDue, kind_at, wrong_with}
use Rattle.hunk_words.specs.FirstOffence.Blames.{too_large, behind_file, longword, upper_half, lower_half}
use Rattle.hunk_words.specs.Kinds.{Kind, low, width}
use Rattle.hunk_words.specs.Kinds.Width.{long, half}
use Rattle.hunk_words.specs.Reading.{start_of}
use Rattle.hunk_words.specs.Spelling.{type_longword}
use Rattle.hunk_words.specs.declared.event.FileKind.{FileKind}
use Rattle.hunk_words.specs.declared.event.FileKind.TheVariants.{Load, Object}
use Rattle.hunk_words.proofs.SpellingBitLemmas.{type_longword-low}
use Rattle.hunk_files.specs.FileValue.{kind_of_longwords}
use Rattle.hunk_survey.specs.Laws.{RefusedBeginsSo, begins_so}

-- ---- how a tree begins

-- its first longword, and the type of that
abbrev start_type : FileKind → ℕ
start_type Object = 999
start_type Load = 1011

record BeginsWith (kind : FileKind) (ws : List ℕ) : Type 0 where
  first : ℕ
  more : List ℕ
  parts : ws ≡ first ∷ more
  typed : low first ≡ start_type kind

tree-begins : (kind : FileKind) (tree : Tree kind) → Fits kind tree → BeginsWith kind (longwords_spelled kind tree)
tree-begins Object tree fits = record {
  first = type_longword tree.first.type_bits 999;
  more = _;
  parts = refl;
  typed = type_longword-low tree.first.type_bits 999 fits.0.fits;
}
tree-begins Load tree fits = record {
  first = type_longword tree.type_bits 1011;
  more = _;
  parts = refl;
  typed = type_longword-low tree.type_bits 1011 fits.0.fits;
}

tree-due : (kind : FileKind) (tree : Tree kind) → kind_at 0 (spelling kind tree) ≡ Some (start_of kind)
tree-due Object tree = refl
tree-due Load tree = refl

-- ---- a valid prefix of at least one longword

or-typed : (kind : FileKind) (first : ℕ) → low first ≡ start_type kind → (low first == 999 || low first == 1011) ≡ true
or-typed Object first is = rw is refl
or-typed Load first is = rw is refl

prefix-begins_so : (kind : FileKind) (first : ℕ) (more : List ℕ) → IsValidPrefix kind (first ∷ more) → begins_so (first ∷ more) ≡ true
prefix-begins_so kind first more valid =
    let begins = tree-begins kind valid.tree valid.fits in
    let same : begins.first ∷ begins.more ≡ first ∷ (more ++ valid.more) = sym begins.parts ∙ valid.begins in
    let head : begins.first ≡ first = cc in
    or-typed kind first (ap low (sym head) ∙ begins.typed)

-- ---- the first longword is the offence

some-is : {X : Type 0} (one other : X) → Some one ≡ Some other → one ≡ other
some-is one other same = cc

-- a longword that does not pass where a file of this kind starts has another type
start-wrong : (kind : FileKind) (bad : ℕ) (seen : List ℕ) (reason : Reason) → wrong_with (start_of kind) seen bad ≡ Some reason → (low bad == start_type kind) ≡ false
start-wrong Object bad seen reason wrong = elim (cases_Bool (low bad == 999)) [
  | inl same ↦ let none = rw same at wrong in absurd (cc)
  | inr unlike ↦ unlike
]
start-wrong Load bad seen reason wrong = elim (cases_Bool (low bad == 1011)) [
  | inl same ↦ let none = rw same at wrong in absurd (cc)
  | inr unlike ↦ unlike
]

start-long : (kind : FileKind) → width (start_of kind) ≡ long
start-long Object = refl
start-long Load = refl

due-start : (kind : FileKind) (k : Kind) (seen : List ℕ) → IsDue kind [] k seen → start_of kind ≡ k
due-start kind k seen due = some-is (start_of kind) k (sym (tree-due kind due.some.tree) ∙ due.bears due.some)

nothing-is_file : (kind : FileKind) → IsFile kind [] → ⊥
nothing-is_file kind file =
    let begins = tree-begins kind file.tree file.is_file.fits in
    let same : begins.first ∷ begins.more ≡ [] = sym begins.parts ∙ file.is_file.spelled in
    cc

blamed-first : (kind : FileKind) (bad : ℕ) (reason : Reason) → Blames kind [] bad reason → (low bad == start_type kind) ≡ false
blamed-first kind bad reason (too_large most is) = absurd (omega (arith, most))
blamed-first kind bad reason (behind_file few load file past) = absurd (nothing-is_file kind file)
blamed-first kind bad reason (longword {k} {seen} few due wide wrong) =
    start-wrong kind bad seen reason (subst (λ it. wrong_with it seen bad ≡ Some reason) (sym (due-start kind k seen due)) wrong)
blamed-first kind bad reason (upper_half {k} {seen} few due wide wrong) =
    let both : long ≡ half _ = sym (start-long kind) ∙ (ap width (due-start kind k seen due) ∙ wide) in
    absurd (cc)
blamed-first kind bad reason (lower_half {k} {l} {seen} {seen_lower} few due wide right lower wrong) =
    let both : long ≡ half _ = sym (start-long kind) ∙ (ap width (due-start kind k seen due) ∙ wide) in
    absurd (cc)

-- A longword that does not begin the kind of file that it tells begins neither kind.
neither : (bad : ℕ) (load : Bool) → (low bad == 1011) ≡ load → (low bad == start_type (if load then Load else Object)) ≡ false → (low bad == 999 || low bad == 1011) ≡ false
neither bad true is unlike = absurd (true≢false (sym is ∙ unlike))
neither bad false is unlike = rw (unlike, is) refl

kind-neither : (bad : ℕ) (behind : List ℕ) → (low bad == start_type (kind_of_longwords (bad ∷ behind))) ≡ false → begins_so (bad ∷ behind) ≡ false
kind-neither bad behind unlike = neither bad (low bad == 1011) refl unlike

-- ---- a file that is refused

positive : (place : ℕ) (number : ℕ) → place ≡ suc number → nat_lt 0 place ≡ true
positive place number is = lt-ltb 0 place (omega (arith, is))

offends-begins_so : (ws front : List ℕ) (bad : ℕ) (behind : List ℕ) (place : ℕ) (reason : Reason) → ws ≡ front ++ (bad ∷ behind) → place ≡ length front
    → IsValidPrefix (kind_of_longwords ws) front → Blames (kind_of_longwords ws) front bad reason → nat_lt 0 place ≡ begins_so ws
offends-begins_so ws [] bad behind place reason parts at good blames =
    let kind : kind_of_longwords ws ≡ kind_of_longwords (bad ∷ behind) = ap kind_of_longwords parts in
    let no = kind-neither bad behind (subst (λ it. (low bad == start_type it) ≡ false) kind (blamed-first (kind_of_longwords ws) bad reason blames)) in
    ap (λ it. nat_lt 0 it) at ∙ sym (ap begins_so parts ∙ no)
offends-begins_so ws (first ∷ more) bad behind place reason parts at good blames =
    positive place (length more) at ∙ sym (ap begins_so parts ∙ prefix-begins_so (kind_of_longwords ws) first more good)

ends-begins_so : (ws : List ℕ) (place : ℕ) → place ≡ length ws → IsValidPrefix (kind_of_longwords ws) ws → nat_lt 0 place ≡ begins_so ws
ends-begins_so [] place at good = ap (λ it. nat_lt 0 it) at
ends-begins_so (first ∷ more) place at good = positive place (length more) at ∙ sym (prefix-begins_so (kind_of_longwords (first ∷ more)) first more good)

pub refused-begins_so : RefusedBeginsSo
refused-begins_so fault ended bytes (inl offends) =
    offends-begins_so (longwords bytes) offends.front offends.bad offends.behind fault.place fault.reason offends.parts offends.at_place offends.good offends.blames
refused-begins_so fault ended bytes (inr (at_end, early)) = ends-begins_so (longwords bytes) fault.place early.at_place early.good
