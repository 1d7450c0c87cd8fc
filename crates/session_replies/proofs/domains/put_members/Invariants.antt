use Rattle.std.proofs.Common.{◌≡◌, ℤ, List, take}
use Rattle.domain_core.specs.Domain.{Set}
use Rattle.session_replies.specs.Written.{WritesMembers}
use Rattle.session_replies.proofs.domains.put_members.Given as goal

abbrev pub invariant-loop-place : goal.invariant-loop-place
invariant-loop-place l = (members : List ℤ) → l.initial.domain ≡ Set members → WritesMembers l.initial.model l.initial.kind (take l.place members) l.initial.out.items l.out.items
