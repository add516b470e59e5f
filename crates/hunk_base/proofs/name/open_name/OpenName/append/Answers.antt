use Rattle.std.proofs.Common.{subst, sym, refl}
use Rattle.std.specs.List.{All}
use Rattle.std.proofs.lemmas.List.Elements.{All-append}
use Rattle.hunk_base.specs.Name.{IsNameByte}
use Rattle.hunk_base.proofs.LongwordsByteLemmas.{are-bytes}
use Rattle.hunk_base.proofs.NameLemmas.{before_zero-name}
use Rattle.hunk_base.proofs.OpenNameLemmas.{Opens-ended, Opens-more}
use Rattle.hunk_base.proofs.name.open_name.OpenName.append.Goals as goal

pub returns-then-self-clause-takes : goal.returns-then-self-clause-takes
returns-then-self-clause-takes g c = λ words more are opens. Opens-ended _ words more c.if-self.true opens

pub invariant_of-self-2 : goal.invariant_of-self-2
invariant_of-self-2 g c = record {
  no_zero = subst (All IsNameByte) (sym c.in_ok-extend.ensures.extends)
      (All-append IsNameByte _ _ c.args.self.now.no_zero (subst (All IsNameByte) (sym c.until_zero-front.ensures) (before_zero-name c.args.bytes.now (are-bytes c.args.bytes.now c.type_inv.bytes))));
}

pub returns-clause-takes : goal.returns-clause-takes
returns-clause-takes g c = λ words more are opens.
    Opens-more _ _ words more c.args.bytes.now _ c.if-self.false opens are c.until_zero-front.ensures
    c.in_ok-extend.ensures.extends refl
