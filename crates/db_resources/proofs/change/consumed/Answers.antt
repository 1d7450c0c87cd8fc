-- What it surely consumes, or all that it may, turned round.
use Rattle.std.proofs.Common.{◌≡◌, w32, to_z, of_z, arith}
use Rattle.std.proofs.lemmas.Int.{ints}
use Rattle.model_core.specs.declared.class.PredKind.TheVariants.{Consume}
use Rattle.db_resources.specs.declared.change.Extreme.TheVariants.{Highest, Lowest}
use Rattle.db_resources.specs.Effects.{IsPossible, IsSure}
use Rattle.db_resources.proofs.Changing.{told_as, turned_told}
use Rattle.db_resources.proofs.change.consumed.Goals as goal

pub returns-in-Highest : goal.returns-in-Highest
returns-in-Highest g c =
    let state = g.V.View.state c.args.view.now in
    let cast = to_z w32 (of_z w32 c.args.object) in
    let object : cast ≡ c.args.object = omega (arith, ints) in
    told_as state Consume c.args.actor.now cast c.args.object c.args.extreme Highest c.turned.result object c.in-Highest.is
    (turned_told (IsSure state cast c.args.actor.now) c.sure.result c.turned.result c.sure.ensures.change c.turned.ensures)

pub returns-in-Lowest : goal.returns-in-Lowest
returns-in-Lowest g c =
    let state = g.V.View.state c.args.view.now in
    let cast = to_z w32 (of_z w32 c.args.object) in
    let object : cast ≡ c.args.object = omega (arith, ints) in
    told_as state Consume c.args.actor.now cast c.args.object c.args.extreme Lowest c.turned-in-Lowest.result object c.in-Lowest.is
    (turned_told (IsPossible state cast c.args.actor.now) c.possible.result c.turned-in-Lowest.result c.possible.ensures.change c.turned-in-Lowest.ensures)
