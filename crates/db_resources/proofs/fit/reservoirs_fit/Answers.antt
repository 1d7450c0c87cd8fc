-- Where there is no reservoir nothing is asked.
use Rattle.std.proofs.Common.{refl, sym, subst}
use Rattle.std.specs.Prelude.{All}
use Rattle.db_resources.specs.Fits.{IsReservoir}
use Rattle.db_resources.proofs.Fitting.{none_reservoir}
use Rattle.db_resources.proofs.fit.reservoirs_fit.Goals as goal

pub returns-then-not-has_reservoir : goal.returns-then-not-has_reservoir
returns-then-not-has_reservoir g c =
    let none = subst (λ m. All (λ object. IsReservoir object → ⊥) m.objects) (sym c.requires.model) c.if-not-has_reservoir.ensures in
    (λ told value. none_reservoir (g.V.View.model c.args.view.now) (g.V.View.decisions c.args.view.now) (g.V.View.state c.args.view.now) none value, λ all. refl)
