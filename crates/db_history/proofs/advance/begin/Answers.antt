use Rattle.std.proofs.Common.{[], Err, subst}
use Rattle.constraint_net.specs.declared.NetFault.{NetFault}
use Rattle.db_history.specs.Advancing.{StartsFrom}
use Rattle.db_history.proofs.Resting.{nothing_collapsed}
use Rattle.db_history.proofs.advance.begin.Goals as goal

pub returns-in-Err-Collapsed : goal.returns-in-Err-Collapsed
returns-in-Err-Collapsed c =
    nothing_collapsed c.args.model.now []
    (subst (λ (fault : NetFault). StartsFrom c.args.model.now (Err fault)) c.in-Err-Collapsed.field-0-is c.in-Err-Collapsed.ensures)
