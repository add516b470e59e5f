-- The sites of one page of a hunk in a table of 1,024 slots, one for each four bytes of the page.
use Rattle.std.specs.Prelude.{◌≡◌, ℕ, ◌+◌, ◌*◌, ◌<◌, ◌/◌, ◌%◌, List, [], ◌∷◌, length, Option, Some, None, if◌then◌else◌, leb, slice_index_or}
use Rattle.hunk_base.specs.Sites.{SharesByte}
use Rattle.std.specs.List.{filter_map}
use Rattle.hunk_base.specs.Page.{AreSpaced}

-- the sites of the slots that have one
abbrev pub present : {X : Type 0} → List (Option X) → List X
present slots = filter_map (λ slot. slot) slots

-- the site of the slot whose four bytes begin at `start`: below 4, the mark says how many bytes after that it begins
abbrev pub site_in : {T : Type 0} → ℕ → ℕ → T → Option (ℕ × T)
site_in start mark target = if leb 4 mark then None else Some (start + mark, target)

-- slots by their marks and targets, the first of which begins at `start`
abbrev pub slots_from : {T : Type 0} → ℕ → List ℕ → List T → List (Option (ℕ × T))
slots_from start [] targets = []
slots_from start (mark ∷ marks) [] = []
slots_from start (mark ∷ marks) (target ∷ targets) = site_in start mark target ∷ slots_from (start + 4) marks targets

-- the slot of the site at an offset
abbrev pub slot_of : ℕ → ℕ
slot_of offset = (offset / 4) % 1024

-- each site is in its slot. The first slot has this number
abbrev pub AreInSlots : {T : Type 0} → ℕ → List (Option (ℕ × T)) → Type 0
AreInSlots number [] = Unit {0}
AreInSlots number (None ∷ slots) = AreInSlots (number + 1) slots
AreInSlots number (Some site ∷ slots) = (slot_of site.0 ≡ number) × AreInSlots (number + 1) slots

-- the slot with this number has a site that a site at the offset shares a byte with
abbrev pub SharesWithSlot : {T : Type 0} → List (Option (ℕ × T)) → ℕ → ℕ → Type 0
SharesWithSlot {T} slots number offset = (site : ℕ × T) × (slice_index_or slots number None ≡ Some site) × SharesByte offset site.0

-- the same by its mark, where the first of the slots begins at `first`
abbrev pub SharesWithMark : ℕ → List ℕ → ℕ → ℕ → Type 0
SharesWithMark first marks number offset =
    (slice_index_or marks number 4 < 4) × SharesByte offset (first + 4 * number + slice_index_or marks number 4)

-- some slot has a site that a site at the offset shares a byte with
abbrev pub SharesWithMarks : ℕ → List ℕ → ℕ → Type 0
SharesWithMarks first marks offset = (number : ℕ) × SharesWithMark first marks number offset

-- a table of the page that begins at `first`, with the sites in its slots
pub record IsTable {T : Type 0} (first : ℕ) (marks : List ℕ) (targets : List T) : Type 0 where
  pub page : first % 4096 ≡ 0
  pub marked : length marks ≡ 1024
  pub targeted : length targets ≡ 1024
  pub spaced : AreSpaced (present (slots_from first marks targets))
  pub some : 0 < length (present (slots_from first marks targets))
