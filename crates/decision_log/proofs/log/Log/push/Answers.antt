use Rattle.std.proofs.Common.{ap, length, arith}
use Rattle.decision_log.proofs.Lists.{more_room, pushed_steps, pushed_lists}
use Rattle.decision_log.proofs.log.Log.push.Goals as goal

pub invariant_of-self-in_err-push : goal.invariant_of-self-in_err-push
invariant_of-self-in_err-push c =
    rw (c.in_err-push.ensures.items, c.in_ok-reserve.ensures.items)
    (more_room _ _ c.self.inside.decisions.items _ c.in_err-push.ensures.capacity c.self.invariant)

pub invariant_of-self-2 : goal.invariant_of-self-2
invariant_of-self-2 c =
    let pushed = c.in_ok-push.ensures.items in
    rw (c.push_reserved.ensures.items, c.in_ok-reserve.ensures.items, c.in_ok-push.ensures.items)
    (pushed_steps _ _ c.self.inside.decisions.items c.self.inside.steps.items c.args.decision c.self.invariant c.in_ok-push.ensures.capacity
    (omega (arith, ap length pushed, c.push.new.self.ok.0, c.push.new.self.ok.1)))

pub returns-clause-ok : goal.returns-clause-ok
returns-clause-ok c =
    rw (← c.self.view_is, c.push_reserved.ensures.items, c.in_ok-reserve.ensures.items, c.in_ok-push.ensures.items)
    (pushed_lists c.self.inside.decisions.items c.self.inside.steps.items c.args.decision)
