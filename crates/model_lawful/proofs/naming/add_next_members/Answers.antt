use Rattle.std.specs.List.{flat_map}
use Rattle.model_lawful.proofs.Scoping.{next_none, next_told}
use Rattle.model_lawful.proofs.naming.add_next_members.Goals as goal

pub returns-then-not-so_far : goal.returns-then-not-so_far
returns-then-not-so_far c = λ first adds. next_none first (flat_map (λ found. found.members) c.args.enums.now) c.args.names.now c.args.names.now c.args.so_far c.if-not-so_far.true adds

pub returns : goal.returns
returns c = next_told (flat_map (λ found. found.members) c.args.enums.now) c.args.names.now c.add_members.new.names c.args.so_far c.add_members.result c.if-not-so_far.false c.add_members.ensures
