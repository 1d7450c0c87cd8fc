use Rattle.std.proofs.Common.{◌≡◌, ◌∙◌, ap, arith}
use Rattle.std.proofs.lemmas.Int.{ints}
use Rattle.db_store.specs.Stores.{blocks_watching}
use Rattle.db_fixpoint.proofs.seating.Seating.on.Goals as goal

pub returns-in-Some : goal.returns-in-Some
returns-in-Some c = λ object is.
    let same : c.in-Some.object ≡ object = omega (arith, ints, c.in-Some.ensures, is) in
    c.of.ensures ∙ ap (blocks_watching c.args.self.now.seats) same

pub returns-in-None : goal.returns-in-None
returns-in-None c = λ object is. absurd (c.in-None.ensures object (omega (arith, ints, is)))
