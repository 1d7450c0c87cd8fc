use Rattle.domain_core.proofs.Merging.{AreApart}
use Rattle.domain_core.proofs.members.have_common.Given as goal

abbrev pub invariant-loop-member : goal.invariant-loop-member
invariant-loop-member l = AreApart l.others l.members l.member-index l.next
