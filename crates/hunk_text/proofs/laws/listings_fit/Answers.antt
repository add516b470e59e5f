use Rattle.hunk_text.proofs.ListingSizeLoadLemmas.{load_listing-fits}
use Rattle.hunk_text.proofs.ListingSizeUnitsLemmas.{object_listing-fits}
use Rattle.hunk_text.proofs.laws.listings_fit.Goals as goal

pub returns-clause-object : goal.returns-clause-object
returns-clause-object c = object_listing-fits

pub returns-clause-load : goal.returns-clause-load
returns-clause-load c = load_listing-fits
