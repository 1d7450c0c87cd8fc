use Rattle.std.proofs.Common.{◌≡◌, ◌∙◌, ap, map, codes, rules}
use Rattle.clap.specs.Simple.{app_of, with_rule}
use Rattle.run_words.specs.Commands.{Double, app_for, operand_rule}
use Rattle.run_words.proofs.Answering.{double_none, double_some}
use Rattle.run_words.proofs.Taken.{all_spelled}
use Rattle.run_words.proofs.division.two_operands.Goals as goal

pub returns-in-Some : goal.returns-in-Some
returns-in-Some c =
    let is : app_of c.in_ok-command-2.command ≡ app_for Double c.args.name.now =
    c.in_ok-command-2.ensures ∙ ap (λ app. with_rule app (operand_rule (codes "second")))
    (c.in_ok-command.ensures ∙ ap (λ app. with_rule app (operand_rule (codes "first"))) c.bare_command.ensures) in
    double_some (app_of c.in_ok-command-2.command) c.args.name.now (map (λ word. word.now) c.args.words.now) c.in-Some.matches c.pair_of.result is
    (all_spelled c.args.words.now c.requires) (search rules) c.pair_of.ensures

pub returns-in-None : goal.returns-in-None
returns-in-None c =
    let is : app_of c.in_ok-command-2.command ≡ app_for Double c.args.name.now =
    c.in_ok-command-2.ensures ∙ ap (λ app. with_rule app (operand_rule (codes "second")))
    (c.in_ok-command.ensures ∙ ap (λ app. with_rule app (operand_rule (codes "first"))) c.bare_command.ensures) in
    double_none (app_of c.in_ok-command-2.command) c.args.name.now (map (λ word. word.now) c.args.words.now) is
    (all_spelled c.args.words.now c.requires) (search rules)
