use Rattle.plan_check.proofs.Linking.{on_none, linked_past}
use Rattle.plan_check.proofs.by_object.LinesByObject.link.Goals as goal

pub returns-in-Some : goal.returns-in-Some
returns-in-Some c = λ listed count at linked. c.put.ensures listed count (c.args.line.now, at, c.in-Some.ensures) linked

pub returns-in_default : goal.returns-in_default
returns-in_default c = λ listed count at linked.
    linked_past listed count c.args.place c.args.self.now (λ object counted. on_none listed c.args.place c.args.line.now at c.in_default.ensures object) linked
