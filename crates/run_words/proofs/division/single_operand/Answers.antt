use Rattle.std.proofs.Common.{◌≡◌, ◌∙◌, ap, map, codes, rules}
use Rattle.clap.specs.Simple.{app_of, with_rule}
use Rattle.run_words.specs.Commands.{Single, app_for, operand_rule}
use Rattle.run_words.proofs.Answering.{single_none, single_some}
use Rattle.run_words.proofs.Taken.{all_spelled}
use Rattle.run_words.proofs.division.single_operand.Goals as goal

pub returns-in-Some : goal.returns-in-Some
returns-in-Some c =
    let is : app_of c.in_ok-command.command ≡ app_for Single c.args.name.now =
    c.in_ok-command.ensures ∙ ap (λ app. with_rule app (operand_rule (codes "first"))) c.bare_command.ensures in
    single_some (app_of c.in_ok-command.command) c.args.name.now (map (λ word. word.now) c.args.words.now) c.in-Some.matches c.get_str.result is
    (all_spelled c.args.words.now c.requires) (search rules) c.get_str.ensures

pub returns-in-None : goal.returns-in-None
returns-in-None c =
    let is : app_of c.in_ok-command.command ≡ app_for Single c.args.name.now =
    c.in_ok-command.ensures ∙ ap (λ app. with_rule app (operand_rule (codes "first"))) c.bare_command.ensures in
    single_none (app_of c.in_ok-command.command) c.args.name.now (map (λ word. word.now) c.args.words.now) is
    (all_spelled c.args.words.now c.requires) (search rules)
