use Rattle.std.proofs.Common.{All, refl, sym, subst}
use Rattle.model_core.specs.declared.class.Enum.{Enum}
use Rattle.model_typing.proofs.Telling.{never, told_not, told_so}
use Rattle.model_lawful.specs.Naming.{IsOwnName}
use Rattle.model_lawful.proofs.Counting.{flat_more, flat_not, flat_whole}
use Rattle.model_lawful.proofs.naming.have_own_members.Goals as goal

pub returns-then-not-are_own : goal.returns-then-not-are_own
returns-then-not-are_own c = told_not _
    (flat_not IsOwnName (λ (e : Enum). e.members) c.args.enums.now c.loop-found.found-index c.found-item.result c.loop-found-test.true c.found-item.is
    (λ all. never _ c.if-not-are_own.ensures (subst (All IsOwnName) (sym c.as_slice.ensures) all)))

pub loop-found-preserved : goal.loop-found-preserved
loop-found-preserved c =
    flat_more IsOwnName (λ (e : Enum). e.members) c.args.enums.now c.loop-found.found-index c.found-item.result c.loop-found-test.true c.found-item.is
    (subst (All IsOwnName) c.as_slice.ensures (c.if-not-are_own.ensures.0 refl)) c.loop-found.invariant

pub returns : goal.returns
returns c = told_so _ (flat_whole IsOwnName (λ (e : Enum). e.members) c.args.enums.now c.loop-found.found-index c.loop-found-test.false c.loop-found.invariant)
