use Rattle.std.proofs.Common.{◌-◌, arith, length}
use Rattle.eu_forest.specs.Ancestors.{ancestry}
use Rattle.nddl_hierarchy.proofs.Circling.{begins, goes_on, round_end, round_none}
use Rattle.nddl_hierarchy.proofs.rounds.one_round.Goals as goal
use Rattle.nddl_hierarchy.proofs.rounds.one_round.Goals.{else-loop-test, then-loop-test+in-None}

pub loop-init : goal.loop-init
loop-init c =
    let parents = c.args.parents.now in
    begins parents c.args.number (length parents - 0) c.new-line.result.items (omega arith) c.new-line.ensures.items

pub loop-preserved : goal.loop-preserved
loop-preserved c =
    let parents = c.args.parents.now in
    goes_on parents c.args.lineage.now.marks.items (length parents) c.loop.counter c.in-Some.here (ancestry parents c.args.number) c.loop.line.items
    c.push.new.self.items c.loop.first c.first_met-first.result c.parent_in.result c.unless_first-next.result
    c.loop-test.true (rw c.in-Some.is at c.loop.invariant) c.in_ok-push-in-Some.ensures.items c.first_met-first.ensures c.parent_in.ensures
    c.unless_first-next.ensures

pub returns : goal.returns
returns c =
    let parents = c.args.parents.now in
    elim c.loop-test.branch [
      | else-loop-test w ↦ round_end parents (length parents) c.loop.counter c.args.number c.loop.line.items c.loop.first c.loop.next w.loop-test.false c.loop.invariant
      | then-loop-test+in-None w ↦ round_none parents (length parents - c.loop.counter) c.args.number c.loop.line.items c.loop.first (rw w.in-None.is at c.loop.invariant)
    ]
