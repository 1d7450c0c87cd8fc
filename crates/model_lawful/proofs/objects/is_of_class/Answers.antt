use Rattle.std.proofs.Common.{refl}
use Rattle.model_core.specs.Lawful.{IsLawfulKind}
use Rattle.model_typing.proofs.Telling.{never, told_as, told_not}
use Rattle.model_lawful.specs.Parts.{IsOfItsClass}
use Rattle.model_lawful.proofs.objects.is_of_class.Goals as goal

pub returns-then-not-is_named : goal.returns-then-not-is_named
returns-then-not-is_named c = told_not _ (λ is. never _ c.if-not-is_named.ensures is.name)

pub returns-then-not-has_field_values : goal.returns-then-not-has_field_values
returns-then-not-has_field_values c = told_not _ (λ is. never _ c.if-not-has_field_values.ensures is.fields)

pub returns : goal.returns
returns c =
    told_as c.is_lawful_kind.result (IsLawfulKind c.args.object.now.kind) (IsOfItsClass c.args.model.now c.args.class.now c.args.object.now)
    (λ kind. record { name = c.if-not-is_named.ensures.0 refl; fields = c.if-not-has_field_values.ensures.0 refl; kind = kind })
    (λ is. is.kind) c.is_lawful_kind.ensures
