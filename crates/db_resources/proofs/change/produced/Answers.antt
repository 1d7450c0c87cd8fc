-- All that it may produce, or what it surely does.
use Rattle.std.proofs.Common.{◌≡◌, w32, to_z, of_z, arith}
use Rattle.std.proofs.lemmas.Int.{ints}
use Rattle.model_core.specs.declared.class.PredKind.TheVariants.{Produce}
use Rattle.db_resources.specs.declared.change.Extreme.TheVariants.{Highest, Lowest}
use Rattle.db_resources.proofs.Changing.{told_as}
use Rattle.db_resources.proofs.change.produced.Goals as goal

pub returns-in-Highest : goal.returns-in-Highest
returns-in-Highest g c =
    let object : to_z w32 (of_z w32 c.args.object) ≡ c.args.object = omega (arith, ints) in
    told_as (g.V.View.state c.args.view.now) Produce c.args.actor.now (to_z w32 (of_z w32 c.args.object)) c.args.object c.args.extreme Highest c.possible.result object c.in-Highest.is c.possible.ensures.change

pub returns-in-Lowest : goal.returns-in-Lowest
returns-in-Lowest g c =
    let object : to_z w32 (of_z w32 c.args.object) ≡ c.args.object = omega (arith, ints) in
    told_as (g.V.View.state c.args.view.now) Produce c.args.actor.now (to_z w32 (of_z w32 c.args.object)) c.args.object c.args.extreme Lowest c.sure.result object c.in-Lowest.is c.sure.ensures.change
