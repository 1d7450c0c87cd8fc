use Rattle.std.proofs.Common.{FitsSigned, w32, rules}
use Rattle.std.proofs.lemmas.Int.{to_z-of_z}
use Rattle.script_lang.proofs.Arguing.{variable_answers, value_answers, no_answer}
use Rattle.script_lang.proofs.arguments.argument_said.Goals as goal

pub returns-in_ok-copy-in-Var : goal.returns-in_ok-copy-in-Var
returns-in_ok-copy-in-Var c =
    variable_answers c.args.model.now c.args.kind c.args.word.now c.args.named.now c.in-Var.name c.in_ok-copy-in-Var.field-0 c.in-Var.is c.in_ok-copy-in-Var.ensures c.requires.named

pub returns-in-Some : goal.returns-in-Some
returns-in-Some c =
    let fits : FitsSigned w32 c.in-Some.value = search rules in
    value_answers c.args.model.now c.args.kind c.args.word.now c.args.named.now c.in-Value.field-0 c.in-Some.value _ c.in-Value.is (to_z-of_z w32 c.in-Some.value fits) c.requires.named c.in-Some.ensures

pub returns-in-None : goal.returns-in-None
returns-in-None c = no_answer c.args.model.now c.args.kind c.args.word.now c.args.named.now c.in-Value.field-0 c.in-Value.is c.requires.named c.in-None.ensures
