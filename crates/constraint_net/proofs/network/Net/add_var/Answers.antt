use Rattle.constraint_net.proofs.Keepers.{added}
use Rattle.constraint_net.proofs.network.Net.add_var.Goals as goal

pub invariant_of-self : goal.invariant_of-self
invariant_of-self c =
    let net = c.self.inside in
    let says = c.add.ensures in
    (added c.args.self.now net.domains c.add.new.self net.tables net.constraints net.marked c.args.domain c.add.result c.self.view_is says.domain c.self.invariant says.grows says.waiting says.ready says.work says.added).0

pub returns-clause-added : goal.returns-clause-added
returns-clause-added c =
    let net = c.self.inside in
    let says = c.add.ensures in
    (added c.args.self.now net.domains c.add.new.self net.tables net.constraints net.marked c.args.domain c.add.result c.self.view_is says.domain c.self.invariant says.grows says.waiting says.ready says.work says.added).1
