use Rattle.model_core.specs.declared.decision.ConArg.{ConArg}
use Rattle.model_core.specs.Decided.{IsTaken}
use Rattle.plan_defs.specs.Claims.{argument_of}
use Rattle.plan_defs.specs.Terms.{ArgumentCounts}
use Rattle.plan_values.proofs.Matching.{one_more, read_item}
use Rattle.db_refusals.proofs.Told.{isnt, is_so, all_counted, one_uncounted}
use Rattle.db_refusals.proofs.tokens.arguments_count.Goals as goal

pub loop-argument-preserved : goal.loop-argument-preserved
loop-argument-preserved c = λ decisions snapshot same told.
    one_more (λ (argument : ConArg). ArgumentCounts c.args.model.now (IsTaken decisions) (argument_of argument)) c.args.arguments.now c.loop-argument.argument-index c.argument-item.result
    c.loop-argument-test.true c.argument-item.is (c.loop-argument.invariant decisions snapshot same told) (is_so (c.if-not-argument_counts.ensures decisions snapshot same told))

pub returns-then-not-argument_counts : goal.returns-then-not-argument_counts
returns-then-not-argument_counts c = λ decisions snapshot same told.
    one_uncounted (ArgumentCounts c.args.model.now (IsTaken decisions)) c.args.arguments.now c.loop-argument.argument-index c.argument-item.result
    (read_item c.args.arguments.now c.loop-argument.argument-index c.argument-item.result c.loop-argument-test.true c.argument-item.is)
    (isnt (c.if-not-argument_counts.ensures decisions snapshot same told))

pub returns : goal.returns
returns c = λ decisions snapshot same told.
    all_counted (ArgumentCounts c.args.model.now (IsTaken decisions)) c.args.arguments.now c.loop-argument.argument-index c.loop-argument-test.false
    (c.loop-argument.invariant decisions snapshot same told)
