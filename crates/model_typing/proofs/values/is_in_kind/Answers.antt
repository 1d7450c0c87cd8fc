use Rattle.std.proofs.Common.{refl}
use Rattle.model_core.specs.Kinds.{IsInKind, IsNumeric}
use Rattle.model_typing.proofs.Each.{in_numeric}
use Rattle.model_typing.proofs.Telling.{told_as}
use Rattle.model_typing.proofs.values.is_in_kind.Goals as goal

pub returns-then-is_range-clause-told : goal.returns-then-is_range-clause-told
returns-then-is_range-clause-told c =
    told_as c.is_numeric.result (IsNumeric c.args.kind) (IsInKind c.args.model.now c.args.kind c.args.domain.now)
    (in_numeric c.args.model.now c.args.kind c.args.domain.now c.values_are_values.ensures) (λ is. is.range (c.if-is_range.ensures.0 refl)) c.is_numeric.ensures

pub returns-then-is_numeric-clause-told : goal.returns-then-is_numeric-clause-told
returns-then-is_numeric-clause-told c =
    told_as c.is_numeric-2.result (IsNumeric c.args.kind) (IsInKind c.args.model.now c.args.kind c.args.domain.now)
    (in_numeric c.args.model.now c.args.kind c.args.domain.now c.values_are_values.ensures) (λ is. c.is_numeric-2.ensures.0 c.if-is_numeric.true) c.is_numeric-2.ensures
