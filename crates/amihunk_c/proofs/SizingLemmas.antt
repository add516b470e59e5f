-- What the bases make of a session that has read a header.
use Rattle.std.specs.Global.{Global}
use Rattle.std.proofs.Common.{◌≡◌, ◌↔◌, ℕ, List, None, Result, Ok, Err, IfOk, IfErr, IsOk, refl, sym, subst, ◌∙◌}
use Rattle.hunk_loader.specs.HeaderLoader.{CanPlace, CannotPlace, HeaderState, StaysPlaced}
use Rattle.hunk_loader.specs.declared.header_loader.PlaceRefusal.{PlaceRefusal}
use Rattle.hunk_loader.specs.declared.header_loader.PlaceRefusal.TheVariants.{HeaderIncomplete, Place, OutOfMemory}
use Rattle.hunk_loader.specs.ImageLoader.{StandsFor, bases_of, refusal_of}
use Rattle.hunk_loader.specs.declared.image_loader.ImageLoader.{ImageLoader}
use Rattle.hunk_loader.specs.declared.places.PlaceFault.{PlaceFault}
use Rattle.amihunk_c.specs.Loading.{HasFed}
use Rattle.amihunk_c.specs.Sizing.{IsUnplaced, PlacesHunks, unplaced_answer}
use Rattle.amihunk_c.specs.Sizing.IsUnplaced.{header_incomplete, misplaced, out_of_memory}
use Rattle.amihunk_c.specs.declared.answer.Answer.{Answer}
use Rattle.amihunk_c.specs.declared.session.Session.{Session}
use Rattle.amihunk_c.specs.declared.session.Session.TheVariants.{Sizing}

unplaced : (bases : List ℕ) (header : HeaderState) (result : Result (ImageLoader Global) PlaceRefusal) (refusal : PlaceRefusal) → result ≡ Err refusal
    → (result ≡ Err HeaderIncomplete) ↔ (header.hunks ≡ None) → ((fault : PlaceFault) → (result ≡ Err (Place fault)) ↔ CannotPlace bases fault header.hunks)
    → IsUnplaced bases header (unplaced_answer refusal)
unplaced bases header result HeaderIncomplete is incomplete refused = header_incomplete (incomplete.0 is) refl
unplaced bases header result (Place fault) is incomplete refused = misplaced fault ((refused fault).0 is) refl
unplaced bases header result OutOfMemory is incomplete refused = out_of_memory (λ none. let wrong = sym is ∙ incomplete.1 none in cc) refl

pub PlacesHunks-unplaced : (bases : List ℕ) (session : Session) (header same : HeaderState) (refusal : PlaceRefusal) (answer : Answer) → session ≡ Sizing header → same ≡ header
    → answer ≡ unplaced_answer refusal → IsUnplaced bases header (unplaced_answer refusal) → PlacesHunks bases session (Sizing same) answer
PlacesHunks-unplaced bases session header same refusal answer is stays told unplaced_is =
    subst (λ (s : Session). PlacesHunks bases s (Sizing same) answer) (sym is) (stays, subst (λ (a : Answer). IsUnplaced bases header a) (sym told) unplaced_is)

-- ---- with rooms: the header is the same

pub rooms-placed : (bases : List ℕ) (old header : HeaderState) (result : Result (ImageLoader Global) PlaceRefusal) → old ≡ header
    → IfOk result (λ loader. StandsFor loader header.bytes) → IfOk result (λ loader. bases_of loader ≡ bases) → IfOk result (λ loader. refusal_of loader ≡ None)
    → (IsOk result → CanPlace bases header.hunks) → (IsOk result → StaysPlaced bases header.bytes)
    → IfOk result (λ loader. HasFed bases old.bytes loader × CanPlace bases old.hunks × StaysPlaced bases old.bytes)
rooms-placed bases old header (Ok loader) same stands given none placed stays =
    subst (λ (h : HeaderState). HasFed bases h.bytes loader × CanPlace bases h.hunks × StaysPlaced bases h.bytes) (sym same)
    (record { given = given; stands = stands; none = none }, placed refl, stays refl)
rooms-placed bases old header (Err refusal) same stands given none placed stays = tt

pub rooms-unplaced : (bases : List ℕ) (old header : HeaderState) (result : Result (ImageLoader Global) PlaceRefusal) → old ≡ header
    → (result ≡ Err HeaderIncomplete) ↔ (header.hunks ≡ None) → ((fault : PlaceFault) → (result ≡ Err (Place fault)) ↔ CannotPlace bases fault header.hunks)
    → IfErr result (λ refusal. IsUnplaced bases old (unplaced_answer refusal))
rooms-unplaced bases old header (Ok loader) same incomplete refused = tt
rooms-unplaced bases old header (Err refusal) same incomplete refused =
    subst (λ (h : HeaderState). IsUnplaced bases h (unplaced_answer refusal)) (sym same) (unplaced bases header (Err refusal) refusal refl incomplete refused)
