use Rattle.std.specs.Prelude.{take, All}
use Rattle.std.specs.List.{flat_map}
use Rattle.model_lawful.specs.Naming.{IsOwnName}
use Rattle.model_lawful.proofs.naming.have_own_members.Given as goal

abbrev pub invariant-loop-found : goal.invariant-loop-found
invariant-loop-found l = All IsOwnName (flat_map (λ found. found.members) (take l.found-index l.enums))
