use Rattle.std.proofs.Common.{sym, subst}
use Rattle.model_core.specs.declared.decision.ConArg.{ConArg}
use Rattle.plan_defs.specs.Claims.{argument_of}
use Rattle.db_refine.specs.Claims.{IsNamedArgument}
use Rattle.db_posting.specs.Origins.{content_now}
use Rattle.db_posting.specs.Postable.{IsArgumentThere}
use Rattle.db_posting.proofs.Offering.{arguments_more}
use Rattle.db_posting.proofs.named.named_arguments.Goals as goal

pub named_argument-requires : goal.named_argument-requires
named_argument-requires c =
    subst (IsArgumentThere (content_now c.args.store.now)) (sym c.argument-item.is)
    (c.requires c.loop-argument.argument-index c.argument-item.result c.loop-argument-test.true)

pub loop-argument-preserved : goal.loop-argument-preserved
loop-argument-preserved c =
    let names = (content_now c.args.store.now).names in
    let loop = c.loop-argument in
    let arg = c.named_argument.result in
    let named = subst (λ (argument : ConArg). IsNamedArgument names (argument_of argument) arg) c.argument-item.is c.named_argument.ensures in
    rw (c.in_ok-push.ensures.items)
    (arguments_more names c.args.arguments.now loop.args.items loop.argument-index arg c.argument-item.result c.loop-argument-test.true loop.invariant named)
