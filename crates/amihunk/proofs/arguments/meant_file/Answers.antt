use Rattle.std.proofs.Common.{◌<◌, ◌^◌, ◌∙◌, None, Some, arith, length, refl, subst, sym}
use Rattle.amihunk.specs.Arguments.{IsMeantBy}
use Rattle.amihunk.proofs.ArgumentsLemmas.{got_item, got_none, meant_own, meant_without}
use Rattle.amihunk.proofs.arguments.meant_file.Goals as goal

pub returns-in-Some-get : goal.returns-in-Some-get
returns-in-Some-get c =
    let arguments = c.args.arguments.now in
    let got = got_item arguments c.in-Some.index c.in-Some-get.argument c.get.result c.get.ensures.lookup c.in-Some-get.is in
    let fits : length arguments < 2 ^ 64 = omega (arith, c.well_formed.0.0) in
    let meant = meant_own arguments c.args.word.now c.in-Some.index c.in-Some-get.argument.now fits (λ index low is. sym c.in-Some.is ∙ c.index_of.ensures index low is) got (c.requires c.in-Some.index c.in-Some-get.argument.now got) in
    subst (IsMeantBy arguments c.args.word.now) (sym c.own_bytes.ensures) meant

pub returns-in-None-get : goal.returns-in-None-get
returns-in-None-get c =
    let arguments = c.args.arguments.now in
    let fits : length arguments < 2 ^ 64 = omega (arith, c.well_formed.0.0) in
    meant_without arguments c.args.word.now (Some c.in-Some.index) fits (λ index low is. sym c.in-Some.is ∙ c.index_of.ensures index low is)
    (got_none arguments c.in-Some.index c.get.result c.get.ensures.lookup c.in-None-get.is)

pub returns-in-None : goal.returns-in-None
returns-in-None c =
    let arguments = c.args.arguments.now in
    let fits : length arguments < 2 ^ 64 = omega (arith, c.well_formed.0.0) in
    meant_without arguments c.args.word.now None fits (λ index low is. sym c.in-None.is ∙ c.index_of.ensures index low is) refl
