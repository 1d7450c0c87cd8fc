-- Resources decide whether the propagated state above all others is the least closed one.
use Rattle.std.proofs.Common.{List, ◌⊎◌, inl, inr}
use Rattle.model_core.specs.declared.decision.Decision.{Decision}
use Rattle.model_core.specs.declared.model.Model.{Model}
use Rattle.model_core.specs.State.{State}
use Rattle.plan_defs.specs.Closure.{IsLeast, IsCollapsed}
use Rattle.plan_defs.specs.Resources.{FitReusables, FitReservoirs}
use Rattle.db_refine.specs.GrowthLaws.{IsTop}
use Rattle.plan_defs.proofs.Reservoirs.{reservoirs_above}
use Rattle.plan_defs.proofs.Resources.{reusables_above}

module _ (model : Model) (decisions : List Decision) (state : State) (is : IsTop model decisions state) where
  pub fits_least : FitReusables model decisions state → FitReservoirs model decisions state → IsLeast model decisions state
  fits_least reusables reservoirs = record {
    closed = record { consistent = is.consistent; reusables = reusables; reservoirs = reservoirs };
    below = λ other closed. is.above other closed.consistent;
  }

  pub broken_collapsed : ((FitReusables model decisions state → ⊥) ⊎ (FitReservoirs model decisions state → ⊥)) → IsCollapsed model decisions
  broken_collapsed (inl broken) = λ other closed.
      broken (reusables_above model decisions state other is.consistent.is_state closed.consistent.is_state (is.above other closed.consistent) closed.reusables)
  broken_collapsed (inr broken) = λ other closed.
      broken (reservoirs_above model decisions state other is.consistent closed.consistent (is.above other closed.consistent) is.in_place closed.reservoirs)
