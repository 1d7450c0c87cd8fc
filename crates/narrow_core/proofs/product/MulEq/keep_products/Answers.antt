use Rattle.std.proofs.Common.{rules}
use Rattle.domain_core.proofs.Fronts.{sieves_keeps}
use Rattle.narrow_core.proofs.Producing.{IsProductOf}
use Rattle.narrow_core.proofs.product.MulEq.keep_products.Goals as goal

pub returns-else-is_range-clause-kept : goal.returns-else-is_range-clause-kept
returns-else-is_range-clause-kept c =
    sieves_keeps _ _ (IsProductOf c.args.self.now.factor c.args.x.now) c.args.products.now c.keep_members.new.self c.keep_members.result
    (λ value passed. search rules) (λ value failed product. search rules) c.keep_members.ensures.sieved
