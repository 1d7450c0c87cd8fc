use Rattle.constraint_net.proofs.Storing.{popped_as}
use Rattle.constraint_net.proofs.posted.Posted.pop.Goals as goal

pub invariant_of-self-2 : goal.invariant_of-self-2
invariant_of-self-2 c =
    let posted = c.self.inside in
    (popped_as posted.kept c.try_remove.new.self posted.keys.items c.pop.new.self.items c.in_ok-key.key c.try_remove.result c.args.self.now c.self.view_is c.self.invariant c.in_ok-key.ensures.items c.try_remove.ensures.value c.try_remove.ensures.updates).0

pub returns : goal.returns
returns c =
    let posted = c.self.inside in
    (popped_as posted.kept c.try_remove.new.self posted.keys.items c.pop.new.self.items c.in_ok-key.key c.try_remove.result c.args.self.now c.self.view_is c.self.invariant c.in_ok-key.ensures.items c.try_remove.ensures.value c.try_remove.ensures.updates).1
