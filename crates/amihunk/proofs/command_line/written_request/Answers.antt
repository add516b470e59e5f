use Rattle.std.proofs.Common.{codes, inl, inr, rules}
use Rattle.clap.specs.Words.{found_of, rows_of, subcommand_rows_of}
use Rattle.amihunk.proofs.CommandLineLemmas.{known, whole_at}
use Rattle.amihunk.proofs.command_line.written_request.Goals as goal

pub link_request-requires : goal.link_request-requires
link_request-requires c = whole_at (subcommand_rows_of c.args.matches.now) (codes "link") (rows_of (found_of c.in-Some-link-default.values.now)) (search rules) c.requires

pub load_request-requires : goal.load_request-requires
load_request-requires c = whole_at (subcommand_rows_of c.args.matches.now) (codes "load") (rows_of (found_of c.in-Some-load-default.values.now)) (search rules) c.requires

pub image_request-requires : goal.image_request-requires
image_request-requires c = whole_at (subcommand_rows_of c.args.matches.now) (codes "image") (rows_of (found_of c.in-Some-image-default.values.now)) (search rules) c.requires

pub check_request-requires : goal.check_request-requires
check_request-requires c = whole_at (subcommand_rows_of c.args.matches.now) (codes "check") (rows_of (found_of c.in-Some-check-default.values.now)) (search rules) c.requires

pub show_request-requires : goal.show_request-requires
show_request-requires c = whole_at (subcommand_rows_of c.args.matches.now) (codes "show") (rows_of (found_of c.in-Some-show-default.values.now)) (search rules) c.requires

pub survey_request-requires : goal.survey_request-requires
survey_request-requires c = whole_at (subcommand_rows_of c.args.matches.now) (codes "survey") (rows_of (found_of c.in-Some-survey-default.values.now)) (search rules) c.requires

pub copy_request-requires : goal.copy_request-requires
copy_request-requires c = whole_at (subcommand_rows_of c.args.matches.now) (codes "copy") (rows_of (found_of c.in-Some-copy-default.values.now)) (search rules) c.requires

pub compare_request-requires : goal.compare_request-requires
compare_request-requires c = whole_at (subcommand_rows_of c.args.matches.now) (codes "compare") (rows_of (found_of c.in-Some-compare-default.values.now)) (search rules) c.requires

pub unreachable-requires : goal.unreachable-requires
unreachable-requires c = elim (known (subcommand_rows_of c.args.matches.now) c.requires) [
  | inl link ↦ search rules
  | inr (inl load) ↦ search rules
  | inr (inr (inl image)) ↦ search rules
  | inr (inr (inr (inl check))) ↦ search rules
  | inr (inr (inr (inr (inl show)))) ↦ search rules
  | inr (inr (inr (inr (inr (inl survey))))) ↦ search rules
  | inr (inr (inr (inr (inr (inr (inl copy)))))) ↦ search rules
  | inr (inr (inr (inr (inr (inr (inr (inl compare))))))) ↦ search rules
  | inr (inr (inr (inr (inr (inr (inr (inr none))))))) ↦ none
]
