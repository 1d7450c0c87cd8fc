use Rattle.constraint_net.proofs.Keepers.{kept_with_table}
use Rattle.constraint_net.proofs.network.Net.add_table.Goals as goal

pub invariant_of-self-2 : goal.invariant_of-self-2
invariant_of-self-2 c = kept_with_table c.self.inside.domains c.self.inside.tables c.push.new.self c.self.inside.constraints c.self.inside.marked _ c.in_ok-push.ensures.items c.self.invariant
