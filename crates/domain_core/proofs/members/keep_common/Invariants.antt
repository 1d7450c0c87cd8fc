use Rattle.domain_core.proofs.Merging.{Merged}
use Rattle.domain_core.proofs.members.keep_common.Given as goal

abbrev pub invariant-loop-read : goal.invariant-loop-read
invariant-loop-read l = Merged l.others l.initial.members.items l.members.items l.kept l.read l.next
