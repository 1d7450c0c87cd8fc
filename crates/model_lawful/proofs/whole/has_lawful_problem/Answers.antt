use Rattle.std.proofs.Common.{All, refl}
use Rattle.model_core.specs.Kinds.{OfProblem}
use Rattle.model_core.specs.Lawful.{IsLawfulItem}
use Rattle.model_typing.proofs.Telling.{never, told_as, told_false, told_not}
use Rattle.model_lawful.specs.Wholes.{HasLawfulProblem}
use Rattle.model_lawful.proofs.whole.has_lawful_problem.Goals as goal

pub returns-then-not-preds : goal.returns-then-not-preds
returns-then-not-preds c = told_not _ (λ problem. told_false c.in_ok-preds.preds _ c.if-not-preds.true c.in_ok-preds.ensures problem.preds)

pub returns-then-not-has_lawful_roots : goal.returns-then-not-has_lawful_roots
returns-then-not-has_lawful_roots c = told_not _ (λ problem. never _ c.if-not-has_lawful_roots.ensures problem.roots)

pub returns : goal.returns
returns c =
    told_as c.has_lawful_items.result (All (IsLawfulItem c.args.model.now OfProblem) c.args.model.now.problem.items) (HasLawfulProblem c.args.model.now)
    (λ items. record { preds = c.in_ok-preds.ensures.0 c.if-not-preds.false; roots = c.if-not-has_lawful_roots.ensures.0 refl; items = items })
    (λ problem. problem.items) c.has_lawful_items.ensures
