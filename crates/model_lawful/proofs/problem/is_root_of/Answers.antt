use Rattle.std.proofs.Common.{ℤ, refl}
use Rattle.domain_core.specs.Domain.{Has}
use Rattle.model_core.specs.Kinds.{IsObjectOf}
use Rattle.model_typing.proofs.Telling.{never, told_as, told_not}
use Rattle.model_lawful.specs.Parts.{IsRootOf}
use Rattle.model_lawful.proofs.problem.is_root_of.Goals as goal

pub returns-then-not-is_labelled : goal.returns-then-not-is_labelled
returns-then-not-is_labelled c = told_not _ (λ is. never _ c.if-not-is_labelled.ensures is.label)

pub returns-then-not-has_given_params : goal.returns-then-not-has_given_params
returns-then-not-has_given_params c = told_not _ (λ is. never _ c.if-not-has_given_params.ensures is.given)

pub returns-then-not-is_in_kind : goal.returns-then-not-is_in_kind
returns-then-not-is_in_kind c = told_not _ (λ is. never _ c.if-not-is_in_kind.ensures.told is.inside)

pub returns : goal.returns
returns c =
    told_as c.are_objects_in.result ((value : ℤ) → Has c.args.root.now.object value → IsObjectOf c.args.model.now c.args.pred.now.class value) (IsRootOf c.args.model.now c.args.pred.now c.args.root.now)
    (λ objects. record {
      label = c.if-not-is_labelled.ensures.0 refl;
      given = c.if-not-has_given_params.ensures.0 refl;
      object = c.are_objects_in.ensures.domain;
      inside = c.if-not-is_in_kind.ensures.told.0 refl;
      objects = objects;
    })
    (λ is. is.objects) c.are_objects_in.ensures.told
