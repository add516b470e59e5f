use Rattle.std.proofs.Common.{◌∙◌, ap₂, refl}
use Rattle.std.proofs.lemmas.Result.{IfOk-weaker}
use Rattle.clap.specs.Words.{with_subcommand}
use Rattle.amihunk.specs.Syntax.{compare_shape}
use Rattle.amihunk.proofs.syntax.command.Goals as goal

pub returns : goal.returns
returns c =
    let links = c.in_ok-links.ensures _ c.link_command.ensures.shape ∙ ap₂ with_subcommand c.bare_command.ensures refl in
    let loads = c.in_ok-loads.ensures _ c.load_command.ensures.shape ∙ ap₂ with_subcommand links refl in
    let images = c.in_ok-images.ensures _ c.image_command.ensures.shape ∙ ap₂ with_subcommand loads refl in
    let checks = c.in_ok-checks.ensures _ c.check_command.ensures.shape ∙ ap₂ with_subcommand images refl in
    let shows = c.in_ok-shows.ensures _ c.show_command.ensures.shape ∙ ap₂ with_subcommand checks refl in
    let surveys = c.in_ok-surveys.ensures _ c.survey_command.ensures.shape ∙ ap₂ with_subcommand shows refl in
    let copies = c.in_ok-copies.ensures _ c.copy_command.ensures.shape ∙ ap₂ with_subcommand surveys refl in
    IfOk-weaker c.with_subcommand-8.result _ _ (λ r added. added ∙ ap₂ with_subcommand copies refl)
    (c.with_subcommand-8.ensures compare_shape c.compare_command.ensures.shape)
