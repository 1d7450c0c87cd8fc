use Rattle.std.proofs.Common.{w32}
use Rattle.std.proofs.lemmas.Int.{to_z-of_z}
use Rattle.domain_core.proofs.Searching.{member_is}
use Rattle.domain_core.proofs.members.is_member.Goals as goal

pub returns : goal.returns
returns c =
    let b = c.binary_search.ensures in
    member_is c.args.members.now c.args.value _ _ _ (to_z-of_z w32 c.args.value c.ranges.value) c.is_ok.ensures.value c.requires b.bound b.ok b.position
