-- The sites of a hunk in pages of 4,096 bytes, from the page with number 0 on.
use Rattle.std.specs.Prelude.{◌≡◌, ℕ, ◌+◌, List, [], ◌∷◌, ◌++◌, replicate, slice_index_or}
use Rattle.hunk_base.specs.Page.{LieInPage}

-- the sites of all pages, one page after another
abbrev pub all_sites : {T : Type 0} → List (List (ℕ × T)) → List (ℕ × T)
all_sites [] = []
all_sites (page ∷ pages) = page ++ all_sites pages

-- the sites of the page with this number, which are none where there is no such page
abbrev pub page_at : {T : Type 0} → List (List (ℕ × T)) → ℕ → List (ℕ × T)
page_at pages number = slice_index_or pages number []

-- each site begins in its page. The first page has this number
abbrev pub LieInPages : {T : Type 0} → ℕ → List (List (ℕ × T)) → Type 0
LieInPages number [] = Unit {0}
LieInPages number (page ∷ pages) = LieInPage number page × LieInPages (number + 1) pages

-- pages without sites were appended
abbrev pub AppendsEmptyPages : {T : Type 0} → List (List (ℕ × T)) → List (List (ℕ × T)) → Type 0
AppendsEmptyPages old new = (more : ℕ) × (new ≡ old ++ replicate more [])
