-- What the steps of linking make of a session.
use Rattle.std.specs.Global.{Global}
use Rattle.std.proofs.Common.{◌≡◌, ℕ, List, [], ◌∷◌, ◌++◌, length, Option, Some, None, IsSome, IsTrue, false, ap, refl, sym, subst, ◌∙◌}
use Rattle.hunk_words.specs.Decoder.{RefusesBytes, RefusesInput}
use Rattle.hunk_words.specs.Files.{IsValidPrefix}
use Rattle.hunk_base.specs.Longwords.{longwords}
use Rattle.hunk_words.specs.declared.decoder.Decoder.{Decoder}
use Rattle.hunk_words.specs.declared.event.FileKind.TheVariants.{Object}
use Rattle.hunk_base.specs.declared.fault.Refusal.{Refusal}
use Rattle.hunk_base.specs.declared.fault.Refusal.TheVariants.{Fault, OutOfMemory}
use Rattle.hunk_objects.specs.declared.unit_builder.UnitBuilder.{UnitBuilder}
use Rattle.hunk_tool.specs.ObjectFiles.{units_of}
use Rattle.amihunk_c.specs.Answers.{plain_answer}
use Rattle.amihunk_c.specs.Linkers.{HasTaken, IsLinkStop, Reads, begun}
use Rattle.amihunk_c.specs.Linking.{AreLinked, EndsInput, FeedsInput, IsInputRefusal, IsPieceRefusal, Links, LinksBetween}
use Rattle.amihunk_c.specs.Refusals.{input_refused}
use Rattle.amihunk_c.specs.declared.answer.Answer.{Answer}
use Rattle.amihunk_c.specs.declared.codes.Status.TheVariants as status
use Rattle.amihunk_c.specs.declared.linker.Linker.{Linker}
use Rattle.amihunk_c.specs.declared.linker.LinkerOptions.{LinkerOptions}
use Rattle.amihunk_c.specs.declared.refused.Refused.{Refused}
use Rattle.amihunk_c.specs.declared.session.Session.{Session}
use Rattle.amihunk_c.specs.declared.session.Session.TheVariants.{Linking, Stopped}
use Rattle.amihunk_c.proofs.LinkerLemmas.{length-AreInputs}

-- the input that is refused has the number of those that have ended
input_refused-is : (options : LinkerOptions) (files : List (List ℕ)) (current : Option (List ℕ)) (linker : Linker) (refusal : Refusal) (count : ℕ) (refused : Refused) → refused ≡ input_refused refusal count
    → count ≡ length linker.ends.items → HasTaken options files current linker → refused ≡ input_refused refusal (length files)
input_refused-is options files current linker refusal count refused is counted has =
    is ∙ ap (input_refused refusal) (counted ∙ sym (length-AreInputs 0 files (units_of linker.files) linker.ends.items has.taken.inputs))

-- ---- a piece

pub FeedsInput-taken : (piece : List ℕ) (session : Session) (old new : Linker) (answer : Answer) → session ≡ Linking old
    → ((options : LinkerOptions) (files : List (List ℕ)) (current : Option (List ℕ)) → HasTaken options files current old → HasTaken options files (Some (begun current ++ piece)) new)
    → ((options : LinkerOptions) (files : List (List ℕ)) (current : Option (List ℕ)) → HasTaken options files current old → IsValidPrefix Object (longwords (begun current ++ piece)))
    → answer ≡ plain_answer status.Ok → FeedsInput piece session (Linking new) answer
FeedsInput-taken piece session old new answer is taken front told =
    subst (λ (s : Session). FeedsInput piece s (Linking new) answer) (sym is) (λ options files current has. (taken options files current has, front options files current has, told))

piece-refused : (input : ℕ) (bytes : List ℕ) (refusal : Refusal) → RefusesBytes Object bytes refusal → IsPieceRefusal input bytes (input_refused refusal input) (input_refused refusal input).fault
piece-refused input bytes (Fault fault) refuses = (refuses, refl)
piece-refused input bytes OutOfMemory refuses = refl

pub FeedsInput-refused : (piece : List ℕ) (session after : Session) (linker : Linker) (refusal : Refusal) (count : ℕ) (refused : Refused) (answer : Answer) → session ≡ Linking linker → after ≡ Stopped refused
    → answer ≡ refused.answer → refused ≡ input_refused refusal count → count ≡ length linker.ends.items
    → ((options : LinkerOptions) (files : List (List ℕ)) (current : Option (List ℕ)) → HasTaken options files current linker → RefusesBytes Object (begun current ++ piece) refusal)
    → FeedsInput piece session after answer
FeedsInput-refused piece session after linker refusal count refused answer is ends told refused_is counted refuses =
    subst (λ (s : Session). FeedsInput piece s after answer) (sym is) (subst (λ (s : Session). FeedsInput piece (Linking linker) s answer) (sym ends) (λ options files current has. (
      subst (λ (r : Refused). IsPieceRefusal (length files) (begun current ++ piece) r r.fault) (sym (input_refused-is options files current linker refusal count refused refused_is counted has))
          (piece-refused (length files) (begun current ++ piece) refusal (refuses options files current has)),
      told,
    )))

-- ---- the end of an input

pub EndsInput-taken : (session : Session) (old new : Linker) (answer : Answer) → session ≡ Linking old
    → ((options : LinkerOptions) (files : List (List ℕ)) (current : Option (List ℕ)) → HasTaken options files current old → HasTaken options (files ++ begun current ∷ []) None new)
    → answer ≡ plain_answer status.Ok → EndsInput session (Linking new) answer
EndsInput-taken session old new answer is taken told =
    subst (λ (s : Session). EndsInput s (Linking new) answer) (sym is) (λ options files current has. (taken options files current has, told))

input-refused : (input : ℕ) (bytes : List ℕ) (refusal : Refusal) → RefusesInput Object bytes refusal → IsInputRefusal input bytes (input_refused refusal input) (input_refused refusal input).fault
input-refused input bytes (Fault fault) refuses = (refuses, refl)
input-refused input bytes OutOfMemory refuses = refl

pub EndsInput-refused : (session after : Session) (linker : Linker) (refusal : Refusal) (count : ℕ) (refused : Refused) (answer : Answer) → session ≡ Linking linker → after ≡ Stopped refused
    → answer ≡ refused.answer → refused ≡ input_refused refusal count → count ≡ length linker.ends.items
    → ((options : LinkerOptions) (files : List (List ℕ)) (current : Option (List ℕ)) → HasTaken options files current linker → RefusesInput Object (begun current) refusal)
    → EndsInput session after answer
EndsInput-refused session after linker refusal count refused answer is ends told refused_is counted refuses =
    subst (λ (s : Session). EndsInput s after answer) (sym is) (subst (λ (s : Session). EndsInput (Linking linker) s answer) (sym ends) (λ options files current has. (
      subst (λ (r : Refused). IsInputRefusal (length files) (begun current) r r.fault) (sym (input_refused-is options files current linker refusal count refused refused_is counted has))
          (input-refused (length files) (begun current) refusal (refuses options files current has)),
      told,
    )))

-- ---- the link

-- a test that failed did not hold
pub not-true : IsTrue false → ⊥
not-true h = cc

reads-some : (bytes : List ℕ) (decoder : Option (Decoder (UnitBuilder Global))) → Reads (Some bytes) decoder → IsSome decoder
reads-some bytes None reads = absurd reads
reads-some bytes (Some decoder) reads = refl

between : (options : LinkerOptions) (files : List (List ℕ)) (current : Option (List ℕ)) (linker : Linker) (old new : Session) (answer : Answer) → (IsSome linker.current → ⊥) → HasTaken options files current linker
    → (HasTaken options files None linker → AreLinked options files new answer) → LinksBetween options files current old new answer
between options files None linker old new answer none has linked = linked has
between options files (Some bytes) linker old new answer none has linked = absurd (none (reads-some bytes linker.current has.reads))

pub Links-refused : (session after : Session) (linker : Linker) (refused : Refused) (answer : Answer) → session ≡ Linking linker → (IsSome linker.current → ⊥) → after ≡ Stopped refused
    → ((options : LinkerOptions) (files : List (List ℕ)) → HasTaken options files None linker → IsLinkStop options files refused refused.fault) → answer ≡ refused.answer → Links session after answer
Links-refused session after linker refused answer is none ends stops told =
    subst (λ (s : Session). Links s after answer) (sym is) (subst (λ (s : Session). Links (Linking linker) s answer) (sym ends) (λ options files current has.
    between options files current linker (Linking linker) (Stopped refused) answer none has (λ taken. (stops options files taken, told))))
