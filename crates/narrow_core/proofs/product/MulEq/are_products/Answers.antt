use Rattle.std.proofs.Common.{rules}
use Rattle.narrow_core.proofs.Producing.{IsProductOf}
use Rattle.narrow_core.proofs.Supports.{tests_all}
use Rattle.narrow_core.proofs.product.MulEq.are_products.Goals as goal

pub returns : goal.returns
returns c =
    tests_all _ _ (IsProductOf c.args.self.now.factor c.args.x.now) c.args.products.now c.all_tested.result (λ value passed. search rules) (λ value failed product. search rules) c.all_tested.ensures
