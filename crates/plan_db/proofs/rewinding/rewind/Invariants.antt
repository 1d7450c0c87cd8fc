use Rattle.std.proofs.Common.{◌≡◌, false, length}
use Rattle.plan_db.specs.Rewinding.{IsTakenSince}
use Rattle.plan_db.proofs.rewinding.rewind.Given as goal

abbrev pub invariant-loop-db : goal.invariant-loop-db
invariant-loop-db g l = record { ready : l.db.behind ≡ false; since : IsTakenSince g.former l.db.database }

abbrev pub decreases-loop-db : goal.decreases-loop-db
decreases-loop-db g l = length l.db.database.history
