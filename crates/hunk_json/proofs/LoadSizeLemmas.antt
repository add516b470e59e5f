-- How many bytes the document of a load file has.
use Rattle.std.proofs.Common.{ℕ, ◌+◌, ◌*◌, ◌/◌, ◌≤◌, List, length, sum_by, arith}
use Rattle.std.proofs.lemmas.List.{length-append}
use Rattle.json.specs.Print.{escape_byte}
use Rattle.hunk_base.specs.Longwords.{longwords}
use Rattle.hunk_base.proofs.SitesLemmas.{AreApart-few}
use Rattle.hunk_loadfile.specs.LoadFile.{IsLoadOf}
use Rattle.hunk_loadfile.specs.LoadHunk.{FileHunk}
use Rattle.hunk_loadfile.specs.Rules.{IsLoadFile, IsLoadHunk, debug_longwords, symbol_longwords}
use Rattle.hunk_loadfile.proofs.RulesReadLemmas.{IsLoadFile-load}
use Rattle.hunk_text.proofs.ListingSizeLemmas.{length-le-sum_by}
use Rattle.hunk_text.proofs.ListingSizeLoadLemmas.{most_content-le, sum_by-weight, weight}
use Rattle.hunk_json.specs.Document.{document}
use Rattle.hunk_json.specs.FileJson.{hunk_site_json, hunks_json, listed, load_hunk_json, load_json}
use Rattle.hunk_json.specs.declared.form.JsonForm.{JsonForm}
use Rattle.hunk_json.proofs.DocumentLemmas.{document-told, told-utf8}
use Rattle.hunk_json.proofs.DocumentSizeLemmas.{length-each-le, length-natural-le}
use Rattle.hunk_json.proofs.FileJsonLemmas.{content-members, hunk_site-told, kind_load-document, load-told, load_hunk-told, load_hunk-utf8}
use Rattle.hunk_json.proofs.FileSizeLemmas.{length-content-le, length-debugs-le, length-hunk_site-le, length-hunks-le, length-kind-le, length-memory-le, length-symbols-le, most_document, most_element, most_part}

length-load_hunk-le : (form : JsonForm) (count offset : ℕ) (hunk : FileHunk) → IsLoadHunk count hunk → length (document form (load_hunk_json form offset hunk)) + 1 ≤ most_part * weight hunk
unfolding escape_byte
length-load_hunk-le form count offset hunk is =
    let sites : length (document form (listed hunk_site_json hunk.sites.entries)) ≤ 2 + most_element * length hunk.sites.entries =
    length-each-le form hunk_site_json most_element (λ site. Unit {0}) hunk.sites.entries (λ site. told-utf8 (hunk_site_json site) (hunk_site-told site)) (λ site any. length-hunk_site-le form site) (λ k d within. tt) in
    rw (document-told form (load_hunk_json form offset hunk) (load_hunk-told form offset hunk))
    (simp (content-members, length-append)
    (omega (
      arith,
      sites,
      length-debugs-le form hunk.debugs,
      length-kind-le form hunk.kind,
      length-memory-le form hunk.memory,
      length-natural-le form hunk.size,
      length-natural-le form (length hunk.content / 4),
      length-content-le form offset hunk.content,
      length-symbols-le form hunk.symbols is.names,
      AreApart-few hunk.sites is.typed.apart,
      is.limit,
      is.content,
      most_content-le hunk.kind hunk.size,
      length-le-sum_by symbol_longwords hunk.symbols (λ symbol. omega arith),
      length-le-sum_by debug_longwords hunk.debugs (λ words. omega arith),
    )))

length-load-le : (form : JsonForm) (offsets : List ℕ) (hunks : List FileHunk) → IsLoadFile hunks → length (document form (load_json form offsets hunks)) ≤ most_document
unfolding escape_byte
length-load-le form offsets hunks is =
    let each : length (document form (hunks_json (load_hunk_json form) offsets hunks)) ≤ 2 + most_part * sum_by weight hunks =
    length-hunks-le form (load_hunk_json form) weight (IsLoadHunk (length hunks)) offsets hunks (load_hunk-utf8 form) (length-load_hunk-le form (length hunks)) is.each in
    rw (document-told form (load_json form offsets hunks) (load-told form offsets hunks))
    (simp (kind_load-document, length-append) (omega (arith, each, sum_by-weight hunks, is.few, is.small, is.carries)))

pub load-fits : (form : JsonForm) (offsets : List ℕ) (hunks : List FileHunk) (bytes : List ℕ) → IsLoadOf hunks bytes → length (document form (load_json form offsets hunks)) ≤ most_document
load-fits form offsets hunks bytes file = length-load-le form offsets hunks (IsLoadFile-load hunks (longwords bytes) file.is_load)
