use Rattle.constraint_net.proofs.Keepers.{limits_as}
use Rattle.constraint_net.proofs.network.Net.limit.Goals as goal

pub invariant_of-self : goal.invariant_of-self
invariant_of-self c =
    let net = c.self.inside in
    let says = c.limit.ensures in
    (limits_as c.args.self.now net.domains c.limit.new.self net.tables net.constraints net.marked c.args.variable c.args.to.now c.limit.result c.self.view_is c.self.invariant c.requires says.work says.limited says.alerts says.told).0

pub returns : goal.returns
returns c =
    let net = c.self.inside in
    let says = c.limit.ensures in
    (limits_as c.args.self.now net.domains c.limit.new.self net.tables net.constraints net.marked c.args.variable c.args.to.now c.limit.result c.self.view_is c.self.invariant c.requires says.work says.limited says.alerts says.told).1
