-- Which sites of a hunk are in its short relocation block. The block and its number are those of
-- doshunks.h; which sites it has is own.
use Rattle.std.specs.Prelude.{ℕ, ◌^◌, Bool, false, nat_lt, not, List}
use Rattle.std.specs.List.{filter}
use Rattle.hunk_loadfile.specs.declared.load_form.LoadForm.{LoadForm}
use Rattle.hunk_loadfile.specs.declared.load_form.LoadForm.TheVariants.{Plain, Short}

-- whether a site at this offset is in the short block: in the short form, if 16 bits hold the offset
abbrev pub is_short : LoadForm → ℕ → Bool
is_short Plain offset = false
is_short Short offset = nat_lt offset (2 ^ 16)

-- the sites in the short relocation block
abbrev pub short_sites : LoadForm → List (ℕ × ℕ) → List (ℕ × ℕ)
short_sites form sites = filter (λ site. is_short form site.0) sites

-- the sites in the relocation block with 32-bit numbers
abbrev pub long_sites : LoadForm → List (ℕ × ℕ) → List (ℕ × ℕ)
long_sites form sites = filter (λ site. not (is_short form site.0)) sites
