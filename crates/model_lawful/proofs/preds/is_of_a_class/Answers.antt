use Rattle.std.proofs.Common.{refl}
use Rattle.model_typing.proofs.Telling.{never, told_as, told_not}
use Rattle.model_lawful.specs.Preds.{HasClass, IsOfAClass}
use Rattle.model_lawful.proofs.preds.is_of_a_class.Goals as goal

pub returns-then-not-is_named : goal.returns-then-not-is_named
returns-then-not-is_named c = told_not _ (λ of. never _ c.if-not-is_named.ensures of.name)

pub returns : goal.returns
returns c =
    told_as c.has_class.result (HasClass c.args.model.now c.args.pred.now.class) (IsOfAClass c.args.model.now c.args.pred.now)
    (λ has. record { name = c.if-not-is_named.ensures.0 refl; class = has.0; is_class = has.1 }) (λ of. (of.class, of.is_class)) c.has_class.ensures
