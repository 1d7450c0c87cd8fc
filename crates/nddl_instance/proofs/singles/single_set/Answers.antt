use Rattle.std.proofs.Common.{w32}
use Rattle.std.proofs.lemmas.Int.{to_z-of_z}
use Rattle.nddl_instance.proofs.Alone.{made_alone}
use Rattle.nddl_instance.proofs.singles.single_set.Goals as goal

pub returns-in-Ok : goal.returns-in-Ok
returns-in-Ok c =
    made_alone c.args.value _ c.in-Ok.domain (to_z-of_z w32 c.args.value c.ranges.value) c.in-Ok.ensures
