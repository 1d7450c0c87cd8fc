use Rattle.std.proofs.Common.{refl}
use Rattle.constraint_net.proofs.Keepers.{asks_net}
use Rattle.constraint_net.proofs.network.Net.next_changed.Goals as goal

pub returns : goal.returns
returns c =
    let net = c.self.inside in
    asks_net c.args.self.now net.domains net.tables net.constraints net.marked (record net.domains.agenda { changed = c.take.new.self }) c.self.view_is c.self.invariant c.take.result c.take.new.self refl c.take.ensures.taken
