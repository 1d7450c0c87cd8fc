use Rattle.std.proofs.Common.{length}
use Rattle.eu_forest.proofs.Handing.{all_members}
use Rattle.eu_forest.proofs.gathering.fill.Goals as goal

pub returns : goal.returns
returns c = λ whole.
    all_members c.args.parents.now c.args.owners.now c.hand_all_up.new.members
    (c.in_ok-hand_all_up.ensures c.args.owners.now (length c.args.owners.now) (c.in_ok-put_all_own.ensures c.args.parents.now c.requires))
    (c.are_handed_up.ensures whole)
