use Rattle.script_lang.specs.declared.command.Command.TheVariants as commands
use Rattle.session_core.proofs.Stepping.{named_found}
use Rattle.session_core.proofs.resetting.subject_asked.Goals as goal

pub returns-in-Named : goal.returns-in-Named
returns-in-Named c =
    rw c.in-Named.is
    (named_found c.args.model.now (commands.Reset c.in-Named.text) c.subject_named.result c.subject_named.ensures)

pub returns-in-Order : goal.returns-in-Order
returns-in-Order c =
    rw c.in-Order.is
    (named_found c.args.model.now (commands.ResetOrder c.in-Order.one c.in-Order.other) c.order_named.result c.order_named.ensures)

pub returns-in-Relation : goal.returns-in-Relation
returns-in-Relation c =
    rw c.in-Relation.is
    (named_found c.args.model.now (commands.Unrelate c.in-Relation.relation c.in-Relation.first c.in-Relation.second) c.relation_named.result
    c.relation_named.ensures)
