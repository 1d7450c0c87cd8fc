use Rattle.std.proofs.Common.{refl}
use Rattle.model_core.specs.Lawful.{HasQuantity}
use Rattle.model_typing.proofs.Telling.{never, told_as, told_false, told_not}
use Rattle.model_lawful.specs.Preds.{HasFewParams, HasLawfulParams}
use Rattle.model_lawful.proofs.preds.has_lawful_params.Goals as goal

pub returns-then-not-distinct : goal.returns-then-not-distinct
returns-then-not-distinct c = told_not _ (λ params. told_false c.in_ok-distinct.distinct _ c.if-not-distinct.true c.in_ok-distinct.ensures params.distinct)

pub returns-then-not-has_few_params : goal.returns-then-not-has_few_params
returns-then-not-has_few_params c = told_not _ (λ params.
    never (HasFewParams c.args.model.now c.args.pred.now) c.if-not-has_few_params.ensures (record { params = params.params; few_params = params.few_params }))

pub returns-then-not-has_named_params : goal.returns-then-not-has_named_params
returns-then-not-has_named_params c = told_not _ (λ params. never _ c.if-not-has_named_params.ensures params.names)

pub returns : goal.returns
returns c =
    let few = c.if-not-has_few_params.ensures.0 refl in
    told_as c.has_its_quantity.result (HasQuantity c.args.pred.now.kind c.args.pred.now.params) (HasLawfulParams c.args.model.now c.args.pred.now)
    (λ quantity. record {
      params = few.params;
      few_params = few.few_params;
      names = c.if-not-has_named_params.ensures.0 refl;
      distinct = c.in_ok-distinct.ensures.0 c.if-not-distinct.false;
      quantity = quantity;
    })
    (λ params. params.quantity) c.has_its_quantity.ensures
