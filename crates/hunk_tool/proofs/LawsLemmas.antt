-- What was read has one outcome: it is a file or has a first offence, never both; and a file has
-- one value.
use Rattle.std.proofs.Common.{◌≡◌, ℕ, ◌^◌, ◌<◌, List, ◌∷◌, ◌++◌, length, append_assoc, append-nil, ap, ap₂, subst, sym, refl, ◌∙◌, inl, inr, Bool, slice_index, EachIndex}
use Rattle.std.proofs.lemmas.List.{nil_from_length}
use Rattle.hunk_words.specs.Files.{IsFile}
use Rattle.hunk_words.specs.FirstOffence.{FirstOffence, OffendsAt}
use Rattle.hunk_words.specs.FirstOffence.FirstOffence.{longword_offends, end_offends}
use Rattle.hunk_base.specs.Longwords.{longwords, unfinished}
use Rattle.hunk_words.specs.declared.event.FileKind.TheVariants.{Load}
use Rattle.hunk_base.specs.declared.fault.Fault.{Fault}
use Rattle.hunk_base.specs.declared.fault.Reason.{Reason}
use Rattle.hunk_words.proofs.FirstOffenceLemmas.{file-no-offence, file-or-offence, first-one}
use Rattle.hunk_base.proofs.LongwordsByteLemmas.{longwords-long}
use Rattle.hunk_base.proofs.LongwordsLemmas.{longwords-append}
use Rattle.hunk_loadfile.specs.LoadHunk.{FileHunk}
use Rattle.hunk_loadfile.proofs.LoadFileLemmas.{one-load}
use Rattle.hunk_loadfile.specs.LoadFile.{IsLoadOf, load_value}
use Rattle.hunk_loader.specs.Places.{IsFirstRefusal}
use Rattle.hunk_loader.specs.Sizes.{sizes_of}
use Rattle.hunk_loader.specs.Loading.{loaded}
use Rattle.hunk_loader.proofs.PlacesLemmas.{IsFirstRefusal-unique, Placed-unrefused, placed-or-refused}
use Rattle.hunk_tool.specs.Laws.{HasOutcome, NotPlacedForOne, OutcomeExists, RefusedBeginsNone, RefusedForOne, ReportedIsPlaced}
use Rattle.hunk_loader.specs.ImageReader.{IsRefused}

-- What offends still does with more after it.
OffendsAt-append : (ws more : List ℕ) (place : ℕ) (r : Reason) → OffendsAt Load ws place r → OffendsAt Load (ws ++ more) place r
OffendsAt-append ws more place r offends = record {
  front = offends.front;
  bad = offends.bad;
  behind = offends.behind ++ more;
  parts = ap (λ words. words ++ more) offends.parts ∙ append_assoc offends.front (offends.bad ∷ offends.behind) more;
  at_place = offends.at_place;
  good = offends.good;
  no_longer = offends.no_longer;
  blames = offends.blames;
}

is-file : (hunks : List FileHunk) (bytes : List ℕ) → IsLoadOf hunks bytes → IsFile Load (longwords bytes)
is-file hunks bytes file = record { tree = file.is_load.tree; is_file = file.is_load.is_file }

pub refused-begins-none : RefusedBeginsNone
refused-begins-none fault ended hunks bytes more (inl offends) nothing_more file =
    let all : OffendsAt Load (longwords (bytes ++ more)) fault.place fault.reason =
    subst (λ ws. OffendsAt Load ws fault.place fault.reason) (sym (longwords-append bytes more)) (OffendsAt-append (longwords bytes) _ fault.place fault.reason offends) in
    file-no-offence Load (longwords (bytes ++ more)) fault.place fault.reason (is-file hunks (bytes ++ more) file) (longword_offends all)
refused-begins-none fault ended hunks bytes more (inr (at_end, early)) nothing_more file =
    let whole : IsLoadOf hunks bytes = subst (IsLoadOf hunks) (ap (λ xs. bytes ++ xs) (nothing_more at_end) ∙ append-nil bytes) file in
    early.not_whole (ap length whole.whole) (is-file hunks bytes whole)

first-offence : (fault : Fault) (ended : Bool) (bytes : List ℕ) → IsRefused fault ended bytes → FirstOffence Load (longwords bytes) (length (unfinished bytes)) fault.place fault.reason
first-offence fault ended bytes (inl offends) = longword_offends offends
first-offence fault ended bytes (inr (at_end, early)) = end_offends early

pub refused-for-one : RefusedForOne
refused-for-one fault other ended also_ended bytes one two =
    let same = first-one Load (longwords bytes) (length (unfinished bytes)) fault.place other.place fault.reason other.reason (first-offence fault ended bytes one) (first-offence other also_ended bytes two) in
    ap₂ (λ place reason. record { place = place; reason = reason }) same.0 same.1

pub one-value : (one other : List FileHunk) (bytes : List ℕ) → IsLoadOf one bytes → IsLoadOf other bytes → one ≡ other
one-value one other bytes file same = one-load one other (longwords bytes) file.is_load same.is_load

pub reported-is-placed : ReportedIsPlaced
reported-is-placed form bases old new fault bytes reported refused =
    let first : IsFirstRefusal (sizes_of reported.hunks) bases fault =
    subst (λ hunks. IsFirstRefusal (sizes_of hunks) bases fault) (one-value refused.hunks reported.hunks bytes refused.is_file reported.is_file) refused.first in
    Placed-unrefused (sizes_of reported.hunks) bases reported.placed fault first

pub not-placed-for-one : NotPlacedForOne
not-placed-for-one bases bytes fault other one two =
    let first : IsFirstRefusal (sizes_of one.hunks) bases other =
    subst (λ hunks. IsFirstRefusal (sizes_of hunks) bases other) (one-value two.hunks one.hunks bytes two.is_file one.is_file) two.first in
    IsFirstRefusal-unique (sizes_of one.hunks) bases fault other one.first first

-- ---- one outcome always holds

-- the outcome of a file follows from its placement
file-outcome : (bases bytes : List ℕ) (hunks : List FileHunk) → IsLoadOf hunks bytes → EachIndex bases (λ hunk. slice_index bases hunk < 2 ^ 32) → HasOutcome bases bytes
file-outcome bases bytes hunks file addresses = elim (placed-or-refused (sizes_of hunks) bases addresses) [
  | inl placed ↦ inl (loaded hunks bases, record { hunks = hunks; is_file = file; placed = placed; image_is = refl })
  | inr refused ↦ inr (inl (refused.0, record { hunks = hunks; is_file = file; first = refused.1 }))
]

offence-outcome : (bases bytes : List ℕ) (place : ℕ) (r : Reason) → FirstOffence Load (longwords bytes) (length (unfinished bytes)) place r → HasOutcome bases bytes
offence-outcome bases bytes place r (longword_offends offends) = inr (inr (record { place = place; reason = r }, inl offends))
offence-outcome bases bytes place r (end_offends early) = inr (inr (record { place = place; reason = r }, inr (refl, early)))

pub outcome-exists : OutcomeExists
outcome-exists bases bytes typed addresses = elim (file-or-offence Load (longwords bytes) (length (unfinished bytes)) (longwords-long bytes typed)) [
  | inl (file, whole) ↦
      let is_load : IsLoadOf (load_value file.tree) bytes = record { whole = nil_from_length (unfinished bytes) whole; is_load = record { tree = file.tree; is_file = file.is_file; value = refl } } in
      file-outcome bases bytes (load_value file.tree) is_load addresses
  | inr offence ↦ offence-outcome bases bytes offence.0 offence.1 offence.2
]
