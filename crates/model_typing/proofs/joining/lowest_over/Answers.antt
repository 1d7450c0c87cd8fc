use Rattle.std.proofs.Common.{refl}
use Rattle.model_typing.proofs.Rising.{over_both}
use Rattle.model_typing.proofs.Under.{self_under}
use Rattle.model_typing.proofs.joining.lowest_over.Goals as goal

pub returns-then-is_under : goal.returns-then-is_under
returns-then-is_under c =
    let model = c.args.model.now in
    over_both model c.args.first c.args.other c.args.first (self_under model c.args.first c.args.first refl) (c.if-is_under.ensures.0 refl) (λ class under over. under)
