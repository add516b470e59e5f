-- Each written form of a load file is that file.
use Rattle.std.proofs.Common.{◌≡◌, ◌∙◌, List, [], ◌∷◌, sym, arith}
use Rattle.hunk_loadfile.specs.Laws.{WrittenIsLoad}
use Rattle.hunk_loadfile.specs.LoadHunk.{FileHunk}
use Rattle.hunk_loadfile.specs.Rules.{IsLoadFile}
use Rattle.hunk_loadfile.specs.WrittenForm.{written_in}
use Rattle.hunk_loadfile.specs.declared.load_form.LoadForm.{LoadForm}
use Rattle.hunk_loadfile.proofs.LoadFileLemmas.{load_value-one}
use Rattle.hunk_loadfile.proofs.WrittenFormSpellingLemmas.{spells-file}
use Rattle.hunk_loadfile.proofs.WrittenFormTree.{file_tree}
use Rattle.hunk_loadfile.proofs.WrittenFormValueLemmas.{read-file}

pub written_in-is_load : WrittenIsLoad
written_in-is_load form [] valid short = absurd (omega (arith, valid.some))
written_in-is_load form (h ∷ hs) valid short =
    let spells = spells-file form h hs valid in
    record {
      tree = file_tree form h hs;
      is_file = record { fits = spells.fits; spelled = spells.words; sites = spells.sites; short_enough = short };
      value = read-file form h hs valid;
    }

-- No other file has the same written form, however long it is.
pub written_in-one : (form : LoadForm) (one other : List FileHunk) → IsLoadFile one → IsLoadFile other → written_in form one ≡ written_in form other → one ≡ other
written_in-one form [] other valid others same = absurd (omega (arith, valid.some))
written_in-one form (h ∷ hs) [] valid others same = absurd (omega (arith, others.some))
written_in-one form (h ∷ hs) (g ∷ gs) valid others same =
    let spells = spells-file form h hs valid in
    let spelled = spells-file form g gs others in
    sym (read-file form h hs valid)
    ∙ load_value-one (file_tree form h hs) (file_tree form g gs) spells.fits spelled.fits (spells.words ∙ same ∙ sym spelled.words)
    ∙ read-file form g gs others
