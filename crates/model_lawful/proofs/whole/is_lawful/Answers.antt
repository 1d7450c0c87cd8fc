use Rattle.std.proofs.Common.{refl}
use Rattle.model_core.specs.Lawful.{IsLawful}
use Rattle.model_typing.proofs.Telling.{never, ok_as, told_false, told_not}
use Rattle.model_lawful.specs.Wholes.{HasLawfulBasis, HasLawfulTypes, IsLawfulAbove, IsSmallModel}
use Rattle.model_lawful.proofs.Joining.{whole_lawful, lawful_small, lawful_basis, lawful_types, lawful_above}
use Rattle.model_lawful.proofs.whole.is_lawful.Goals as goal

pub returns-then-not-is_small : goal.returns-then-not-is_small
returns-then-not-is_small c = told_not _ (λ lawful. never (IsSmallModel c.args.model.now) c.if-not-is_small.ensures (lawful_small c.args.model.now lawful))

pub returns-then-not-has_lawful_basis : goal.returns-then-not-has_lawful_basis
returns-then-not-has_lawful_basis c = told_not _ (λ lawful. never (HasLawfulBasis c.args.model.now) c.if-not-has_lawful_basis.ensures (lawful_basis c.args.model.now lawful))

pub returns-then-not-types : goal.returns-then-not-types
returns-then-not-types c = told_not _ (λ lawful. told_false c.in_ok-types.types (HasLawfulTypes c.args.model.now) c.if-not-types.true c.in_ok-types.ensures (lawful_types c.args.model.now lawful))

pub is_lawful_above-requires : goal.is_lawful_above-requires
is_lawful_above-requires c = record { small = c.if-not-is_small.ensures.0 refl; basis = c.if-not-has_lawful_basis.ensures.0 refl }

pub returns : goal.returns
returns c =
    ok_as c.is_lawful_above.result (IsLawfulAbove c.args.model.now) (IsLawful c.args.model.now)
    (whole_lawful c.args.model.now (c.if-not-is_small.ensures.0 refl) (c.if-not-has_lawful_basis.ensures.0 refl) (c.in_ok-types.ensures.0 c.if-not-types.false))
    (lawful_above c.args.model.now) c.is_lawful_above.ensures
