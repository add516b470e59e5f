-- One member after the other.
use Rattle.std.proofs.Common.{◌∙◌, ap}
use Rattle.hunk_base.proofs.TextLemmas.{◌⨾◌, Puts-as}
use Rattle.hunk_survey.specs.FindingJson.{number_json, truth}
use Rattle.hunk_survey.proofs.finding_json.write_refused.Goals as goal

pub returns : goal.returns
returns g c =
    let number = Puts-as (ap number_json c.number_in.ensures) c.write_number.ensures in
    let begins = Puts-as (c.truth.ensures ∙ ap truth c.begins_hunk_file.ensures) c.put-5.ensures in
    c.put.ensures ⨾ c.put_decimal.ensures ⨾ c.put-2.ensures ⨾ c.write_reason.ensures ⨾ c.put-3.ensures ⨾ number ⨾ c.put-4.ensures ⨾ begins
