use Rattle.std.proofs.Common.{rules}
use Rattle.eu_forest.proofs.Handing.{all_handed}
use Rattle.eu_forest.proofs.gathering.are_handed_up.Goals as goal

pub returns : goal.returns
returns c = λ told. all_handed c.args.parents.now c.args.members.now c.loop-thing.thing (search rules) c.loop-thing.invariant
