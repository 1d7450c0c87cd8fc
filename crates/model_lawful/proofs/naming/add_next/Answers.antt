use Rattle.std.proofs.Common.{map}
use Rattle.model_lawful.proofs.Scoping.{next_none, next_told}
use Rattle.model_lawful.proofs.naming.add_next.Goals as goal

pub returns-then-not-so_far : goal.returns-then-not-so_far
returns-then-not-so_far g c = λ first adds. next_none first (map g.T.Named.named c.args.items.now) c.args.names.now c.args.names.now c.args.so_far c.if-not-so_far.true adds

pub returns : goal.returns
returns g c = next_told (map g.T.Named.named c.args.items.now) c.args.names.now c.add_all.new.names c.args.so_far c.add_all.result c.if-not-so_far.false c.add_all.ensures
