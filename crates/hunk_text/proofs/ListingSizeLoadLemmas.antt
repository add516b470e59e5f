-- How many bytes the listing of a load file has.
use Rattle.std.proofs.Common.{◌≡◌, ℕ, ◌+◌, ◌*◌, ◌/◌, ◌^◌, ◌<◌, ◌≤◌, List, [], ◌∷◌, ◌++◌, length, sum_by, codes, refl, arith}
use Rattle.std.specs.Fmt.{decimal}
use Rattle.std.specs.List.{All, enumerate_from, flat_map}
use Rattle.std.proofs.lemmas.List.{length-append}
use Rattle.std.proofs.lemmas.List.Sums.{get_or-le-sum_by, sum_by-cons}
use Rattle.hunk_base.specs.Longwords.{longwords}
use Rattle.hunk_words.specs.declared.kinds.HunkKind.{HunkKind}
use Rattle.hunk_words.specs.declared.kinds.HunkKind.TheVariants.{Code, Data, Bss}
use Rattle.hunk_base.proofs.SitesLemmas.{AreApart-few}
use Rattle.hunk_loadfile.specs.LoadHunk.{FileHunk}
use Rattle.hunk_loadfile.specs.Rules.{IsLoadFile, IsLoadHunk, carried_by, carried_longwords, debug_longwords, most_content, size_of, symbol_longwords}
use Rattle.hunk_loadfile.proofs.RulesReadLemmas.{IsLoadFile-load}
use Rattle.hunk_text.specs.Laws.{LoadListingFits}
use Rattle.hunk_text.specs.Listing.{adds_hunk, debug_lines, hunk_front, load_hunk_line, load_hunk_lines, load_line, load_listing, load_site_lines, site_line}
use Rattle.hunk_base.specs.Text.{line}
use Rattle.hunk_base.proofs.DigitsLemmas.{length-decimal}
use Rattle.hunk_text.proofs.ListingSizeLemmas.{IsCounted, length-adds_hunk-le, length-debug_lines-le, length-hunk_front-le, length-le-sum_by, length-lines-le, length-numbered-le, length-parts-le, length-site_line-le, most_front, most_line}

-- ---- a hunk

pub most_content-le : (kind : HunkKind) (size : ℕ) → most_content kind size ≤ 4 * size
most_content-le Code size = omega arith
most_content-le Data size = omega arith
most_content-le Bss size = omega arith

-- a hunk of a load file with this many hunks, whose size and tables can be counted
record IsPrintable (count : ℕ) (hunk : FileHunk) : Type 0 where
  valid : IsLoadHunk count hunk
  size : hunk.size < 2 ^ 32
  carried : carried_by hunk < 2 ^ 32

-- no fewer than its lines
abbrev pub weight : FileHunk → ℕ
weight hunk = 1 + hunk.size + carried_by hunk

-- the end of its line, with the number of longwords that the file has for it
length-stored-le : (front : List ℕ) (stored : ℕ) → length front ≤ most_front → stored < 2 ^ 64 → length (line (front ++ codes ", " ++ decimal stored ++ codes " stored")) ≤ most_line
length-stored-le front stored short fits = simp length-append (omega (arith, length-decimal stored fits))

length-load_hunk_line-le : (count number : ℕ) (hunk : FileHunk) → number < 2 ^ 64 → IsPrintable count hunk → length (load_hunk_line number hunk) ≤ most_line
length-load_hunk_line-le count number hunk fits is =
    length-stored-le (hunk_front number hunk.kind hunk.memory hunk.size) (length hunk.content / 4)
    (length-hunk_front-le number hunk.kind hunk.memory hunk.size fits (omega (arith, is.size)))
    (omega (arith, is.valid.content, most_content-le hunk.kind hunk.size, is.size))

length-load_site_lines-le : (count : ℕ) (hunk : FileHunk) → count < 2 ^ 64 → IsPrintable count hunk → length (load_site_lines hunk) ≤ most_line * length hunk.sites.entries
length-load_site_lines-le count hunk few is =
    length-lines-le (λ site. site.1 < count) (λ site. site_line site.0 (adds_hunk site.1)) hunk.sites.entries
    (λ site among. length-site_line-le site.0 (adds_hunk site.1) (omega (arith, length-adds_hunk-le site.1 (omega arith)))) is.valid.targets

length-load_hunk_lines-le : (count number : ℕ) (hunk : FileHunk) → count < 2 ^ 64 → number < 2 ^ 64 → IsPrintable count hunk → length (load_hunk_lines (number, hunk)) ≤ most_line * weight hunk
length-load_hunk_lines-le count number hunk few fits is =
    let counted : All IsCounted hunk.debugs = λ k d within. omega (arith, get_or-le-sum_by debug_longwords hunk.debugs k d within, is.carried) in
    length-parts-le (load_hunk_line number hunk ++ load_site_lines hunk) (debug_lines hunk.symbols hunk.debugs) (most_line * (1 + length hunk.sites.entries)) (most_line * (length hunk.symbols + length hunk.debugs)) _
    (length-parts-le (load_hunk_line number hunk) (load_site_lines hunk) most_line (most_line * length hunk.sites.entries) _ (length-load_hunk_line-le count number hunk fits is) (length-load_site_lines-le count hunk few is) (omega arith))
    (length-debug_lines-le hunk.symbols hunk.debugs is.valid.names counted)
    (omega (
      arith,
      AreApart-few hunk.sites is.valid.typed.apart,
      is.valid.limit,
      length-le-sum_by symbol_longwords hunk.symbols (λ symbol. omega arith),
      length-le-sum_by debug_longwords hunk.debugs (λ words. omega arith),
    ))

-- ---- a file

pub sum_by-weight : (hunks : List FileHunk) → sum_by weight hunks ≡ length hunks + size_of hunks + carried_longwords hunks
sum_by-weight [] = refl
sum_by-weight (hunk ∷ hunks) = omega (arith, sum_by-weight hunks, sum_by-cons weight hunk hunks, sum_by-cons (λ (h : FileHunk). h.size) hunk hunks, sum_by-cons carried_by hunk hunks)

load-printable : (hunks : List FileHunk) → IsLoadFile hunks → All (IsPrintable (length hunks)) hunks
load-printable hunks is = λ k d within. record {
  valid = is.each k d within;
  size = omega (arith, get_or-le-sum_by (λ (hunk : FileHunk). hunk.size) hunks k d within, is.small);
  carried = omega (arith, get_or-le-sum_by carried_by hunks k d within, is.carries);
}

length-load_listing-lt : (hunks : List FileHunk) → IsLoadFile hunks → length (load_listing hunks) < 2 ^ 64
length-load_listing-lt hunks is =
    let count = length hunks in
    let few : count ≤ 65535 = is.few in
    let lines = length-numbered-le (IsPrintable count) load_hunk_lines weight 0 hunks (λ number hunk. length-load_hunk_lines-le count number hunk (omega arith)) (omega arith) (load-printable hunks is) in
    omega (
      arith,
      length-append (load_line count) (flat_map load_hunk_lines (enumerate_from 0 hunks)),
      length-load_line-le count (omega arith),
      lines,
      sum_by-weight hunks,
      is.small,
      is.carries,
    )
  where
    length-load_line-le : (count : ℕ) → count < 2 ^ 64 → length (load_line count) ≤ 39
    length-load_line-le count fits = simp length-append (omega (arith, length-decimal count fits))

pub load_listing-fits : LoadListingFits
load_listing-fits hunks bytes file = length-load_listing-lt hunks (IsLoadFile-load hunks (longwords bytes) file.is_load)
