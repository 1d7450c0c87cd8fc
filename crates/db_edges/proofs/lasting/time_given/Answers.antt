use Rattle.db_edges.proofs.Pointing.{none_given, none_told}
use Rattle.db_edges.proofs.lasting.time_given.Goals as goal

pub returns-in_default : goal.returns-in_default
returns-in_default c =
    none_given c.args.model.now c.args.decisions.now c.args.token.now c.args.part c.args.edges.now.items (λ value point given. c.in_default.ensures value given.0)

pub returns-in-None : goal.returns-in-None
returns-in-None c =
    let none = none_told c.in_ok-point.field-0 _ _ c.in-None.is c.in_ok-point.ensures in
    none_given c.args.model.now c.args.decisions.now c.args.token.now c.args.part c.args.edges.now.items (λ value point given. none point given.1)
