use Rattle.std.proofs.Common.{map, take}
use Rattle.std.specs.List.{AllZip}
use Rattle.plan_defs.specs.Claims.{argument_of}
use Rattle.db_refine.specs.Claims.{IsNamedArgument}
use Rattle.db_posting.specs.Origins.{content_now}
use Rattle.db_posting.proofs.named.named_arguments.Given as goal

abbrev pub invariant-loop-argument : goal.invariant-loop-argument
invariant-loop-argument l =
    AllZip (IsNamedArgument (content_now l.store).names) (map argument_of (take l.argument-index l.arguments)) l.args.items
