-- A run of offsets to one hunk: what a core stands for after one more of them.
use Rattle.std.proofs.Common.{◌≡◌, ℕ, suc, ◌+◌, ◌<◌, ◌^◌, List, [], ◌∷◌, ◌++◌, Some, None, Ok, Err, refl, sym, subst, ◌∙◌}
use Rattle.hunk_words.specs.Files.{most_longwords}
use Rattle.hunk_words.specs.Numbers.{WordAnswered, at_offset}
use Rattle.hunk_words.specs.DecoderCore.{Behind, StandsBy, fields_read, in_offsets, refused_at}
use Rattle.hunk_words.specs.declared.decoder_core.CoreState.{CoreState}
use Rattle.hunk_words.specs.declared.event.Event.{Event}
use Rattle.hunk_words.specs.declared.event.FileKind.{FileKind}
use Rattle.hunk_base.specs.declared.fault.Refusal.{Refusal}
use Rattle.hunk_words.specs.declared.numbers.NumberRefusal.{NumberRefusal}
use Rattle.hunk_words.specs.declared.numbers.NumberRefusal.TheVariants.{Refused, OutOfMemory}
use Rattle.hunk_words.specs.declared.state.Expected.TheVariants.{Offset}
use Rattle.hunk_words.specs.declared.state.State.{State}
use Rattle.hunk_words.proofs.DecoderCoreLemmas.{StandsBy-taken, StandsBy-refused}

-- Only the error matters to what a core with an error stands for.
pub StandsBy-kept : (kind : FileKind) (Before After : List Event → Type 0) (s t : CoreState) (refusal : Refusal) (ws : List ℕ) → s.refusal ≡ Some refusal → t.refusal ≡ Some refusal
    → StandsBy kind Before s ws → StandsBy kind After t ws
StandsBy-kept kind Before After s t refusal ws was keeps stands = record {
  good = λ none. absurd cc;
  faulty = λ fault is. stands.faulty fault (was ∙ sym keeps ∙ is);
}

-- a longword that is refused
pub StandsBy-stopped : (kind : FileKind) (Before After : List Event → Type 0) (s : CoreState) (ws : List ℕ) (w : ℕ) (stop : NumberRefusal) (b : Behind kind Before s ws)
    → s.place < most_longwords → w < 2 ^ 32 → WordAnswered kind After (fields_read kind ws) b.progress w (Err stop)
    → StandsBy kind After (record s { refusal = Some (refused_at s.place stop) }) (ws ++ w ∷ [])
StandsBy-stopped kind Before After s ws w (Refused reason) b room fits answered = StandsBy-refused kind Before After s ws w reason b room fits answered
StandsBy-stopped kind Before After s ws w OutOfMemory b room fits answered = record {
  good = λ none. absurd cc;
  faulty = λ fault is. absurd cc;
}

-- an offset that is taken
pub offset-behind : (kind : FileKind) (Before After : List Event → Type 0) (s : State) (more target place w : ℕ) (ws : List ℕ) (b : Behind kind Before (in_offsets s (suc more) target place) ws)
    → place < most_longwords → w < 2 ^ 32 → WordAnswered kind After (fields_read kind ws) b.progress w (Ok (at_offset s more target))
    → Behind kind After (in_offsets s more target (place + 1)) (ws ++ w ∷ [])
offset-behind kind Before After s more target place w ws b room fits answered =
    (StandsBy-taken kind Before After (in_offsets s (suc more) target place) ws w (at_offset s more target) b room fits answered).good refl

-- a core in which an offset is expected
pub Behind-due : (kind : FileKind) (Stands : List Event → Type 0) (s : CoreState) (more target : ℕ) (ws : List ℕ) → s.state.due ≡ Offset more target → s.refusal ≡ None
    → StandsBy kind Stands s ws → Behind kind Stands (in_offsets s.state more target s.place) ws
Behind-due kind Stands s more target ws is none stands =
    subst (λ d. Behind kind Stands (record { state = record s.state { due = d }; place = s.place; refusal = None }) ws) is
    (subst (λ r. Behind kind Stands (record s { refusal = r }) ws) none (stands.good none))
