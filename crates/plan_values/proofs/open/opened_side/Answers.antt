use Rattle.std.proofs.Common.{ap}
use Rattle.plan_defs.specs.Support.{one_side, other_side}
use Rattle.plan_values.specs.Meanings.{context_of}
use Rattle.plan_values.proofs.Opening.{opened_equal, opened_differ, none_opened}
use Rattle.plan_values.proofs.open.opened_side.Goals as goal

pub returns-in-Some : goal.returns-in-Some
returns-in-Some c =
    opened_equal c.args.model.now c.args.plan.now c.requires (context_of c.args.at) c.args.guard c.in-Equal.one c.in-Equal.other c.in-Some.same c.side_where.result
    c.in-Equal.is c.side_where.ensures c.in-Some.ensures

pub returns-in-None : goal.returns-in-None
returns-in-None c =
    none_opened c.args.model.now c.args.plan.now c.requires (context_of c.args.at) c.args.guard c.in-Equal.one c.in-Equal.other
    (ap one_side c.in-Equal.is) (ap other_side c.in-Equal.is) c.in-None.ensures

pub returns-in-Some-are_equal : goal.returns-in-Some-are_equal
returns-in-Some-are_equal c =
    opened_differ c.args.model.now c.args.plan.now c.requires (context_of c.args.at) c.args.guard c.in-Differ.one c.in-Differ.other c.in-Some-are_equal.same c.side_where-in-Some-are_equal.result
    c.in-Differ.is c.side_where-in-Some-are_equal.ensures c.in-Some-are_equal.ensures

pub returns-in-None-are_equal : goal.returns-in-None-are_equal
returns-in-None-are_equal c =
    none_opened c.args.model.now c.args.plan.now c.requires (context_of c.args.at) c.args.guard c.in-Differ.one c.in-Differ.other
    (ap one_side c.in-Differ.is) (ap other_side c.in-Differ.is) c.in-None-are_equal.ensures
