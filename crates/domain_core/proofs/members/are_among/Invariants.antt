use Rattle.domain_core.proofs.Merging.{AreAmong}
use Rattle.domain_core.proofs.members.are_among.Given as goal

abbrev pub invariant-loop-member : goal.invariant-loop-member
invariant-loop-member l = AreAmong l.others l.members l.member-index l.next
