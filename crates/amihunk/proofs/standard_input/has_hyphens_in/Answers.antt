use Rattle.std.proofs.Common.{◌∙◌, [], refl}
use Rattle.hunk_store.specs.Addresses.{source_of}
use Rattle.hunk_store.specs.FileList.{given_list}
use Rattle.hunk_commands.specs.Request.{given_text}
use Rattle.amihunk.specs.StandardInput.{list_inputs, one_inputs, source_inputs}
use Rattle.amihunk.proofs.StandardInputLemmas.{two_hyphens}
use Rattle.amihunk.proofs.standard_input.has_hyphens_in.Goals as goal

pub returns-in-Link : goal.returns-in-Link
returns-in-Link c =
    rw c.in-Link.is (c.are_two.ensures
    ∙ two_hyphens (one_inputs (given_text c.list_file.result)) (list_inputs (given_list c.in-Link.list)) c.as_slice.result.now c.in-Link.files.items c.number_of_hyphens.result c.list_file.ensures c.as_slice.ensures.value c.number_of_hyphens.ensures)

pub returns-in-Image : goal.returns-in-Image
returns-in-Image c =
    rw c.in-Image.is (c.are_two-in-Image.ensures
    ∙ two_hyphens (one_inputs (given_text c.addresses_file-in-Image.result)) (source_inputs (source_of c.in-Image.addresses)) c.as_slice-in-Image.result.now c.in-Image.files.items c.number_of_hyphens-in-Image.result c.addresses_file-in-Image.ensures c.as_slice-in-Image.ensures.value c.number_of_hyphens-in-Image.ensures)

pub returns-in-Names : goal.returns-in-Names
returns-in-Names c =
    rw c.in-Names.is (c.are_two-in-Names.ensures
    ∙ two_hyphens [] [] c.as_slice-in-Names.result.now c.in-Names.files.items c.number_of_hyphens-in-Names.result refl c.as_slice-in-Names.ensures.value c.number_of_hyphens-in-Names.ensures)

pub returns-in-Survey : goal.returns-in-Survey
returns-in-Survey c =
    rw c.in-Survey.is (c.are_two-in-Survey.ensures
    ∙ two_hyphens (one_inputs (given_text c.list_file-in-Survey.result)) (list_inputs (given_list c.in-Survey.list)) c.as_slice-in-Survey.result.now c.in-Survey.files.items c.number_of_byte_hyphens.result c.list_file-in-Survey.ensures c.as_slice-in-Survey.ensures.value c.number_of_byte_hyphens.ensures)
