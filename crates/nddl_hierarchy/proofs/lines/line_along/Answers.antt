use Rattle.std.proofs.Common.{◌++◌, ◌-◌, ◌+◌, length, ap, ◌∙◌}
use Rattle.eu_forest.specs.Ancestors.{line_from, ancestry}
use Rattle.nddl_hierarchy.proofs.Climbing.{line_step, line_end, line_none}
use Rattle.nddl_hierarchy.proofs.lines.line_along.Goals as goal
use Rattle.nddl_hierarchy.proofs.lines.line_along.Goals.{else-loop-test, then-loop-test+in-None}

pub loop-preserved : goal.loop-preserved
loop-preserved c =
    let parents = c.args.parents.now in
    let out = c.push.new.self.items in
    let left = length parents - (c.loop.counter + 1) in
    ap (λ next. out ++ line_from left parents next) c.parent_in-next.ensures
    ∙ line_step parents (length parents) c.loop.counter c.in-Some.here c.loop.line.items out (ancestry parents c.args.number)
    c.loop-test.true (rw c.in-Some.is at c.loop.invariant) c.in_ok-push-in-Some.ensures.items

pub returns : goal.returns
returns c =
    let parents = c.args.parents.now in
    elim c.loop-test.branch [
      | else-loop-test w ↦ line_end parents (length parents) c.loop.counter c.loop.next c.loop.line.items (ancestry parents c.args.number) w.loop-test.false c.loop.invariant
      | then-loop-test+in-None w ↦ line_none parents (length parents - c.loop.counter) c.loop.line.items (ancestry parents c.args.number) (rw w.in-None.is at c.loop.invariant)
    ]
