use Rattle.std.proofs.Common.{arith}
use Rattle.std.proofs.lemmas.Int.{ints}
use Rattle.narrow_core.proofs.Ordered.{paired_alike}
use Rattle.narrow_core.proofs.field.Field.is_paired.Goals as goal

pub returns : goal.returns
returns c = paired_alike c.args.self.now.entries c.along.result.now c.args.side c.args.other.now c.args.value _ (omega (arith, ints)) c.along.ensures.same c.is_paired_along.result c.is_paired_along.ensures
