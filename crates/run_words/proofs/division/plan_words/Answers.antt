use Rattle.std.proofs.Common.{map, codes, rules}
use Rattle.clap.specs.Simple.{app_of}
use Rattle.run_words.proofs.Answering.{plan_none, plan_some}
use Rattle.run_words.proofs.Taken.{all_spelled}
use Rattle.run_words.proofs.division.plan_words.Goals as goal

pub returns-in-Some : goal.returns-in-Some
returns-in-Some c =
    plan_some (app_of c.in_ok-command.command) (codes "plan") (map (λ word. word.now) c.args.words.now) c.in-Some.matches c.plan_of.result c.in_ok-command.ensures
    (all_spelled c.args.words.now c.requires) (search rules) c.plan_of.ensures

pub returns-in-None : goal.returns-in-None
returns-in-None c =
    plan_none (app_of c.in_ok-command.command) (codes "plan") (map (λ word. word.now) c.args.words.now) c.in_ok-command.ensures
    (all_spelled c.args.words.now c.requires) (search rules)
