-- Where there is no reusable nothing is asked.
use Rattle.std.proofs.Common.{refl, sym, subst}
use Rattle.std.specs.Prelude.{All}
use Rattle.db_resources.specs.Fits.{IsReusable}
use Rattle.db_resources.proofs.Fitting.{none_reusable}
use Rattle.db_resources.proofs.fit.reusables_fit.Goals as goal

pub returns-then-not-has_reusable : goal.returns-then-not-has_reusable
returns-then-not-has_reusable g c =
    let none = subst (λ m. All (λ object. IsReusable object → ⊥) m.objects) (sym c.requires.model) c.if-not-has_reusable.ensures in
    (λ told value. none_reusable (g.V.View.model c.args.view.now) (g.V.View.decisions c.args.view.now) (g.V.View.state c.args.view.now) none value, λ all. refl)
