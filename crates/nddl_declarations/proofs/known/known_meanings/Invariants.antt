use Rattle.std.proofs.Common.{[]}
use Rattle.nddl_hierarchy.specs.Facts.{facts_of}
use Rattle.nddl_declarations.proofs.Depends.{with_known}
use Rattle.nddl_declarations.proofs.Settled.{Settled}
use Rattle.nddl_declarations.proofs.known.known_meanings.Given as goal

-- what is known is settled for that of the order which has been dealt with
abbrev pub invariant-loop-entry : goal.invariant-loop-entry
invariant-loop-entry l = Settled (with_known (facts_of l.basis) []) l.order l.entry-index l.known.items
