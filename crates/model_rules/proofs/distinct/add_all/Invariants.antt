use Rattle.model_rules.proofs.Adding.{AddedUpTo}
use Rattle.model_rules.proofs.distinct.add_all.Given as goal

abbrev pub invariant-loop-item : goal.invariant-loop-item
invariant-loop-item g l = AddedUpTo g.T.Named.named l.initial.names l.items l.item-index l.names
