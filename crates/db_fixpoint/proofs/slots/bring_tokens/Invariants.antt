-- The tokens so far have been brought.
use Rattle.db_fixpoint.proofs.Asking.{BroughtTo}
use Rattle.db_fixpoint.proofs.slots.bring_tokens.Given as goal

abbrev pub invariant-loop-name : goal.invariant-loop-name
invariant-loop-name l = BroughtTo l.model l.names l.name-index l.fn.store l.store
