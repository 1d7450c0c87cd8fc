use Rattle.script_lang.proofs.Arguing.{first_found, none_found, none_at_all}
use Rattle.script_lang.proofs.compared.first_kind.Goals as goal

pub returns-in-Var : goal.returns-in-Var
returns-in-Var c =
    first_found c.args.model.now c.args.arguments.now c.loop-argument.argument-index c.argument-item.result c.in-Var.name c.kind_of.result c.loop-argument-test.true c.argument-item.is c.in-Var.is
    c.kind_of.ensures c.loop-argument.invariant

pub loop-argument-preserved : goal.loop-argument-preserved
loop-argument-preserved c =
    none_found c.args.model.now c.args.arguments.now c.loop-argument.argument-index c.argument-item.result c.in_default.field-0 c.loop-argument-test.true c.argument-item.is c.in_default.is
    c.loop-argument.invariant

pub returns : goal.returns
returns c = none_at_all c.args.model.now c.args.arguments.now c.loop-argument.argument-index c.loop-argument-test.false c.loop-argument.invariant
