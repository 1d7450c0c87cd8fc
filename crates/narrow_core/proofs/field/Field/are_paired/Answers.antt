use Rattle.std.proofs.Common.{rules}
use Rattle.narrow_core.specs.Sides.{IsPaired}
use Rattle.narrow_core.proofs.Supports.{tests_all}
use Rattle.narrow_core.proofs.field.Field.are_paired.Goals as goal

pub returns : goal.returns
returns c =
    tests_all _ _ (IsPaired c.args.self.now.entries c.args.side c.args.other.now) c.args.own.now c.all_tested.result (λ value passed. search rules) (λ value failed paired. search rules) c.all_tested.ensures
