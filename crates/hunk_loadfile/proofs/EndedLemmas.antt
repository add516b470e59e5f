-- Which hunks have ended, after one more event.
use Rattle.std.proofs.Common.{◌≡◌, ℕ, suc, ◌+◌, ◌<◌, ◌≤◌, List, [], ◌∷◌, ◌++◌, length, length-append, get_or, refl, sym, ap, ◌∙◌, arith}
use Rattle.hunk_words.specs.EventValue.{EventValue, Receiver, on_last, step, word_to}
use Rattle.hunk_words.specs.EventValue.Receiver.{nothing_more, to_unit_name, to_name, to_content, to_debug, to_symbol, to_entry}
use Rattle.hunk_words.specs.SiteContext.{SiteContext, context_with}
use Rattle.hunk_words.specs.Values.{Hunk}
use Rattle.hunk_words.specs.declared.event.Event.{Event}
use Rattle.hunk_words.specs.declared.event.Event.TheVariants as event
use Rattle.hunk_words.specs.declared.event.FileKind.TheVariants.{Load}
use Rattle.hunk_loadfile.specs.HunkBuilder.{IsEnded, IsWithinHunks, Receives, with_content}
use Rattle.hunk_loadfile.specs.LoadFile.{file_hunk}
use Rattle.hunk_loadfile.specs.LoadHunk.{FileHunk}
use Rattle.hunk_loadfile.specs.Partial.{HaveEnded, file_hunks}
use Rattle.hunk_loadfile.specs.declared.hunk_builder.Receiver.{Receiver as HunkReceiver}
use Rattle.hunk_loadfile.specs.declared.hunk_builder.Receiver.TheVariants as Receiving

-- ---- the hunks of a part

file_hunks-none : (ss : List (ℕ × ℕ)) → file_hunks ss [] ≡ []
file_hunks-none [] = refl
file_hunks-none (s ∷ ss) = refl

-- more sizes than hunks change nothing
pub file_hunks-more : (ss : List (ℕ × ℕ)) (s : ℕ × ℕ) (hs : List Hunk) → length hs ≤ length ss → file_hunks (ss ++ (s ∷ [])) hs ≡ file_hunks ss hs
file_hunks-more [] s [] few = refl
file_hunks-more [] s (h ∷ hs) few = absurd (omega arith)
file_hunks-more (r ∷ ss) s [] few = refl
file_hunks-more (r ∷ ss) s (h ∷ hs) few = ap (λ fs. file_hunk r.0 r.1 h ∷ fs) (file_hunks-more ss s hs (omega arith))

pub file_hunks-end : (ss : List (ℕ × ℕ)) (hs : List Hunk) (h : Hunk) (s : ℕ × ℕ) → length hs < length ss → s ≡ get_or ss (length hs) s
    → file_hunks ss (hs ++ (h ∷ [])) ≡ file_hunks ss hs ++ (file_hunk s.0 s.1 h ∷ [])
file_hunks-end [] hs h s few is = absurd (omega arith)
file_hunks-end (r ∷ ss) [] h s few is = ap (λ fs. file_hunk r.0 r.1 h ∷ fs) (file_hunks-none ss) ∙ ap (λ q. file_hunk q.0 q.1 h ∷ []) (sym is)
file_hunks-end (r ∷ ss) (g ∷ hs) h s few is = ap (λ fs. file_hunk r.0 r.1 g ∷ fs) (file_hunks-end ss hs h s (omega arith) is)

pub length-file_hunks : (ss : List (ℕ × ℕ)) (hs : List Hunk) → length hs ≤ length ss → length (file_hunks ss hs) ≡ length hs
length-file_hunks [] [] few = refl
length-file_hunks [] (h ∷ hs) few = absurd (omega arith)
length-file_hunks (s ∷ ss) [] few = refl
length-file_hunks (s ∷ ss) (h ∷ hs) few = ap suc (length-file_hunks ss hs (omega arith))

-- ---- one more event

-- a word, unless it is of a unit's name
HaveEnded-word : {A : Type 0} (r : HunkReceiver A) (t : Receiver) (w : ℕ) (hunks : List FileHunk) (told : EventValue) (watch : SiteContext) → Receives r t → HaveEnded hunks told watch → HaveEnded hunks (word_to t told w) watch
HaveEnded-word r nothing_more w hunks told watch receives h = h
HaveEnded-word Receiving.Nothing to_unit_name w hunks told watch receives h = absurd receives
HaveEnded-word Receiving.Content to_unit_name w hunks told watch receives h = absurd receives
HaveEnded-word Receiving.Debug to_unit_name w hunks told watch receives h = absurd receives
HaveEnded-word (Receiving.Symbol name) to_unit_name w hunks told watch receives h = absurd receives
HaveEnded-word r to_name w hunks told watch receives h = record { part = h.part; one_part = h.one_part; values = h.values; few = h.few; count = h.count }
HaveEnded-word r to_content w hunks told watch receives h = record { part = h.part; one_part = h.one_part; values = h.values; few = h.few; count = h.count }
HaveEnded-word r to_debug w hunks told watch receives h = record { part = h.part; one_part = h.one_part; values = h.values; few = h.few; count = h.count }
HaveEnded-word r (to_symbol ws) w hunks told watch receives h = record { part = h.part; one_part = h.one_part; values = h.values; few = h.few; count = h.count }
HaveEnded-word r (to_entry t ws) w hunks told watch receives h = record { part = h.part; one_part = h.one_part; values = h.values; few = h.few; count = h.count }

-- The same hunks have ended after an event within a hunk.
pub HaveEnded-more : {A : Type 0} (r : HunkReceiver A) (e : Event) (hunks : List FileHunk) (told : EventValue) (watch : SiteContext) → IsWithinHunks e → Receives r told.receiver → HaveEnded hunks told watch
    → HaveEnded hunks (step told e) (context_with Load watch e)
HaveEnded-more r event.Unit hunks told watch within receives h = absurd within
HaveEnded-more r (event.Entry t) hunks told watch within receives h = absurd within
HaveEnded-more r (event.Count n) hunks told watch within receives h = absurd within
HaveEnded-more r (event.RefSite o) hunks told watch within receives h = absurd within
HaveEnded-more r event.HunkEnd hunks told watch within receives h = absurd within
HaveEnded-more r (event.HunkSize bits size) hunks told watch within receives h = record {
  part = h.part;
  one_part = h.one_part;
  values = h.values ∙ sym (file_hunks-more told.sizes (bits, size) h.part.hunks h.few);
  few = let few : length h.part.hunks ≤ length told.sizes = h.few in omega (arith, length-append told.sizes ((bits, size) ∷ []));
  count = h.count;
}
HaveEnded-more r (event.Word w) hunks told watch within receives h =
    let more = HaveEnded-word r told.receiver w hunks told watch receives h in
    record { part = more.part; one_part = more.one_part; values = more.values; few = more.few; count = more.count }
HaveEnded-more r e hunks told watch within receives h = record { part = h.part; one_part = h.one_part; values = h.values; few = h.few; count = h.count }

-- A hunk ends.
pub HaveEnded-end : (hunk : FileHunk) (hunks : List FileHunk) (told : EventValue) (watch : SiteContext) → IsEnded hunk told watch → HaveEnded hunks told watch
    → HaveEnded (hunks ++ hunk ∷ []) (step told event.HunkEnd) (context_with Load watch event.HunkEnd)
HaveEnded-end hunk hunks told watch ended h =
    let s = ended.header in
    let within : watch.position.ended < length told.sizes = ended.within in
    let count : watch.position.ended ≡ length h.part.hunks = h.count in
    let some : length h.part.hunks < length told.sizes = omega arith in
    let header : s ≡ get_or told.sizes (length h.part.hunks) s = ended.has_header ∙ ap (λ n. get_or told.sizes n s) count in
    let longer : length (h.part.hunks ++ (told.hunk ∷ [])) ≡ length h.part.hunks + 1 = length-append h.part.hunks (told.hunk ∷ []) in
    record {
      part = record h.part { hunks = h.part.hunks ++ (told.hunk ∷ []) };
      one_part = ap (λ ps. on_last (λ p. record p { hunks = p.hunks ++ (told.hunk ∷ []) }) ps) h.one_part;
      values = ap (λ hs. hs ++ (hunk ∷ [])) h.values ∙ ap (λ x. file_hunks told.sizes h.part.hunks ++ (x ∷ [])) ended.value ∙ sym (file_hunks-end told.sizes h.part.hunks told.hunk s some header);
      few = omega arith;
      count = omega arith;
    }

pub length-ended : (hunks : List FileHunk) (told : EventValue) (watch : SiteContext) → HaveEnded hunks told watch → length hunks ≡ watch.position.ended
length-ended hunks told watch h = ap length h.values ∙ length-file_hunks told.sizes h.part.hunks h.few ∙ sym h.count

-- Content ends no hunk.
pub HaveEnded-content : (hunks : List FileHunk) (told : EventValue) (watch : SiteContext) (ws : List ℕ) → HaveEnded hunks told watch → HaveEnded hunks (with_content told ws) watch
HaveEnded-content hunks told watch ws h = record { part = h.part; one_part = h.one_part; values = h.values; few = h.few; count = h.count }
