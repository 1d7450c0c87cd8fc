use Rattle.std.proofs.Common.{rules}
use Rattle.domain_core.proofs.Fronts.{sieves_keeps}
use Rattle.narrow_core.specs.Sides.{IsPaired}
use Rattle.narrow_core.proofs.field.Field.keep_paired.Goals as goal

pub returns-clause-kept : goal.returns-clause-kept
returns-clause-kept c =
    sieves_keeps _ _ (IsPaired c.args.self.now.entries c.args.side c.args.other.now) c.args.own.now c.keep_members.new.self c.keep_members.result
    (λ value passed. search rules) (λ value failed paired. search rules) c.keep_members.ensures.sieved
