use Rattle.std.proofs.Common.{◌≡◌, ◌∙◌, None, ap, false, is_some, refl, sym, true}
use Rattle.clap.specs.Words.{first_of, found_of, rows_of}
use Rattle.clap.proofs.WalkLemmas.{first_value-rows}
use Rattle.amihunk.proofs.command_line.value_of.Goals as goal

-- a value that is missing was in fact given
pub unreachable-requires : goal.unreachable-requires
unreachable-requires c =
    let found = found_of c.args.values.now in
    let missing : None ≡ first_of c.args.id.now (rows_of found) = c.in-None.ensures ∙ first_value-rows found c.args.id.now in
    let given : false ≡ true = ap is_some missing ∙ c.requires in
    cc given

pub returns : goal.returns
returns c = rw (sym (first_value-rows (found_of c.args.values.now) c.args.id.now) ∙ sym c.in-Some.ensures) refl
