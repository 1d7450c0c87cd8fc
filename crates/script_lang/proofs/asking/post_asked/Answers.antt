use Rattle.std.proofs.Common.{List}
use Rattle.model_core.specs.declared.decision.ConArg.{ConArg}
use Rattle.script_lang.specs.Naming.{SayArguments, StandForArguments}
use Rattle.script_lang.proofs.Asked.{none_is, some_is, SayNoArguments, no_post, post_found}
use Rattle.script_lang.proofs.asking.post_asked.Goals as goal

pub returns-in-Some : goal.returns-in-Some
returns-in-Some c =
    post_found c.args.model.now c.args.kind c.args.arguments.now c.in-Some.given
    (some_is (SayNoArguments c.args.model.now c.args.kind c.args.arguments.now)
    (λ given. (asked : List ConArg) × (SayArguments c.args.model.now c.args.kind c.args.arguments.now asked × StandForArguments given asked))
    c.in_ok-found.found c.in-Some.given c.in-Some.is c.in_ok-found.ensures)

pub returns-in-None : goal.returns-in-None
returns-in-None c =
    no_post c.args.model.now c.args.kind c.args.arguments.now
    (none_is (SayNoArguments c.args.model.now c.args.kind c.args.arguments.now)
    (λ (given : List ConArg). (asked : List ConArg) × (SayArguments c.args.model.now c.args.kind c.args.arguments.now asked × StandForArguments given asked))
    c.in_ok-found.found c.in-None.is c.in_ok-found.ensures)
