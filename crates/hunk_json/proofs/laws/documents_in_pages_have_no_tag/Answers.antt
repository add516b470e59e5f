use Rattle.serde_json.specs.Written.{compact_text}
use Rattle.hunk_json.specs.Run.{file_json}
use Rattle.hunk_json.specs.declared.form.JsonForm.TheVariants.{InPage}
use Rattle.hunk_json.proofs.LawsLemmas.{with_escapes-no_tag}
use Rattle.hunk_json.proofs.laws.documents_in_pages_have_no_tag.Goals as goal

pub returns : goal.returns
returns c = λ offsets value. with_escapes-no_tag (compact_text (file_json InPage offsets value))
