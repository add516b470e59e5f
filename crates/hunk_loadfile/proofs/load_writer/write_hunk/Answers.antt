-- The parts of a hunk, one after another.
use Rattle.std.proofs.Common.{◌≡◌, ◌<◌, ◌^◌, ◌∙◌, ℕ, List, Vec, ap, refl, subst, sum_by, sym, arith}
use Rattle.std.proofs.lemmas.List.Elements.{All-weaker}
use Rattle.std.proofs.lemmas.List.Folds.{flat_map-map}
use Rattle.std.proofs.lemmas.Result.{err_from_is_err_and}
use Rattle.std.specs.List.{All}
use Rattle.hunk_base.specs.Name.{bytes_of}
use Rattle.hunk_base.specs.Sites.{AreApart}
use Rattle.hunk_base.specs.Text.{Puts, PutsFront}
use Rattle.hunk_base.proofs.TextLemmas.{Puts-then}
use Rattle.hunk_words.specs.DebugInfo.{lists_of}
use Rattle.hunk_loadfile.specs.LoadHunk.{FileHunk}
use Rattle.hunk_loadfile.specs.Rules.{debug_longwords, most_hunks}
use Rattle.hunk_loadfile.specs.WrittenForm.{debug_words}
use Rattle.hunk_loadfile.proofs.LoadWriterLemmas.{hunk-bytes}
use Rattle.hunk_loadfile.proofs.LongwordWriterLemmas.{debugs-short}
use Rattle.hunk_loadfile.proofs.PutsLemmas.{PutsFront-behind, PutsFront-nothing}
use Rattle.hunk_loadfile.proofs.load_writer.write_hunk.Goals as goal

abbrev entries_of : FileHunk → List (ℕ × ℕ)
entries_of h = h.sites.entries

abbrev symbols_of : FileHunk → List (List ℕ × ℕ)
symbols_of h = h.symbols

abbrev debugs_of : FileHunk → List (List ℕ)
debugs_of h = h.debugs

abbrev Below : ℕ → List (ℕ × ℕ) → Type 0
Below count entries = All (λ site. site.1 < count) entries

pub write_sites-requires : goal.write_sites-requires
write_sites-requires g c =
    let valid = c.requires.valid in
    let sites = ap entries_of c.hunk.view_is in
    record {
      apart = subst (λ (k : FileHunk). AreApart k.sites) (sym c.hunk.view_is) valid.typed.apart;
      targets = All-weaker (λ site. site.1 < most_hunks) (λ site. site.1 < 2 ^ 16) (λ site below. omega arith) c.hunk.inside.sites.entries (subst (Below most_hunks) (sym sites) valid.targets);
    }

pub returns-in_err-write_sites-clause-stopped : goal.returns-in_err-write_sites-clause-stopped
returns-in_err-write_sites-clause-stopped g c = λ count.
    let h = c.args.hunk.now in
    let p = err_from_is_err_and c.from_residual.result c.from_residual.ensures.1 in
    rw (p.1)
    (subst (λ text. PutsFront g.W.Sink.taken g.W.Sink.failed c.args.text.now c.write_sites.new.text text) (sym (hunk-bytes c.args.form count h h.sites.entries h.symbols h.debugs refl refl refl))
    (PutsFront-behind g.W.Sink.taken g.W.Sink.failed c.write_content.ensures (PutsFront-nothing g.W.Sink.taken g.W.Sink.failed _ c.in_err-write_sites.ensures.nothing)))

pub write_debugs-requires : goal.write_debugs-requires
write_debugs-requires g c =
    let debugs : lists_of c.deref-2.result.now ≡ c.args.hunk.now.debugs = ap lists_of c.deref-2.ensures.value ∙ ap debugs_of c.hunk.view_is in
    debugs-short c.deref-2.result.now (omega (arith, c.requires.carries, ap (sum_by debug_longwords) debugs))

pub returns-clause-wrote : goal.returns-clause-wrote
returns-clause-wrote g c = λ count targets.
    let taken = g.W.Sink.taken in
    let failed = g.W.Sink.failed in
    let h = c.args.hunk.now in
    let sites : c.hunk.inside.sites.entries ≡ h.sites.entries = ap entries_of c.hunk.view_is in
    let symbols : c.deref.result.now ≡ h.symbols = c.deref.ensures.value ∙ ap symbols_of c.hunk.view_is in
    let debugs : lists_of c.deref-2.result.now ≡ h.debugs = ap lists_of c.deref-2.ensures.value ∙ ap debugs_of c.hunk.view_is in
    let infos = sym (flat_map-map (λ (ws : List ℕ). bytes_of (debug_words ws)) (λ (v : Vec ℕ g.row.A.Denot). v.items) c.deref-2.result.now) in
    let blocks = subst (λ text. Puts taken failed c.write_symbols.new.text c.write_debugs.new.text text) infos c.write_debugs.ensures in
    let listed = c.in_ok-write_sites.ensures.wrote count (subst (Below count) (sym sites) targets) in
    subst (λ text. Puts taken failed c.args.text.now c.write_longwords.new.text text) (sym (hunk-bytes c.args.form count h c.hunk.inside.sites.entries c.deref.result.now (lists_of c.deref-2.result.now) sites symbols debugs))
    (Puts-then taken failed c.write_content.ensures (Puts-then taken failed listed (Puts-then taken failed c.write_symbols.ensures (Puts-then taken failed blocks c.write_longwords.ensures))))
