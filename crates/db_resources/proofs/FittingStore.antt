-- What fits in a store at rest decides whether its state is the least one.
use Rattle.std.proofs.Common.{List, Bool, true, false, not, inl, inr, subst}
use Rattle.std.specs.Prelude.{MatchBool}
use Rattle.model_core.specs.declared.decision.Decision.{Decision}
use Rattle.model_core.specs.declared.model.Model.{Model}
use Rattle.model_core.specs.Lawful.{IsLawful}
use Rattle.model_core.specs.State.{State}
use Rattle.plan_defs.specs.Closure.{IsLeast, IsCollapsed}
use Rattle.plan_defs.specs.Resources.{FitReusables, FitReservoirs}
use Rattle.plan_defs.specs.Settling.{IsSettled}
use Rattle.db_refine.specs.GrowthLaws.{IsTop, ResourcesDecide}
use Rattle.db_posting.specs.Underway.{IsAtRest}
use Rattle.db_refine.proofs.Ending as ending
use Rattle.db_resources.specs.Actors.{IsSoundView}
use Rattle.db_resources.specs.Fits.{FitLevels}
use Rattle.db_store.specs.Stores.{Stored, snapshot_of, IsSnapshot, named_content}
use Rattle.db_store.proofs.Naming.{names_are_once}
use Rattle.plan_defs.specs.Unordered.{AreDecidedOnce}
use Rattle.token_store.specs.Tokens.{tokens_now}
use Rattle.db_refusals.specs.Seeing.{seen_state}
use Rattle.db_refusals.proofs.Seen.{have_states, one_state}
use Rattle.db_resources.specs.Completeness.{AreAllDecided, AreAllCertain}
use Rattle.db_resources.proofs.Completing.{alike, misses, complete_from, complete_decided, complete_certain}

module _ (model : Model) (decisions : List Decision) (stored : Stored) (is : IsSnapshot (snapshot_of stored)) (once : AreDecidedOnce model decisions)
    (rest : IsAtRest model decisions stored.net.tables (snapshot_of stored)) where
  abbrev seen : State
  seen = seen_state stored

  pub sound : IsLawful model → IsSoundView model decisions seen
  sound lawful = record {
    lawful = lawful;
    is_state = have_states model (named_content (snapshot_of stored)) rest.underway.justified.is_content;
    in_base = λ name domain gives. rest.underway.justified.in_base name domain (((alike model decisions stored is once rest).gives name domain).1 gives);
    once = once;
  }

  pub levels_undecided : (AreAllDecided (tokens_now stored.past) → ⊥) → FitReservoirs model decisions seen
  levels_undecided more complete = absurd (more (complete_decided model decisions stored is once rest complete))

  pub levels_uncertain : (AreAllCertain model stored → ⊥) → FitReservoirs model decisions seen
  levels_uncertain more complete = absurd (more (complete_certain model decisions stored is once rest complete))

  pub levels_hold : FitLevels model decisions seen → FitReservoirs model decisions seen
  levels_hold levels complete = levels

  pub levels_break : AreAllDecided (tokens_now stored.past) → AreAllCertain model stored → (FitLevels model decisions seen → ⊥) → FitReservoirs model decisions seen → ⊥
  levels_break decided certain none fits = none (fits (complete_from model decisions stored is once rest decided certain))

  -- where levels break and all is decided, they fit exactly if some branch isn't certain
  pub levels_open : (certain : Bool) → AreAllDecided (tokens_now stored.past) → (FitLevels model decisions seen → ⊥)
      → MatchBool certain (AreAllCertain model stored) (AreAllCertain model stored → ⊥)
      → MatchBool (not certain) (FitReservoirs model decisions seen) (FitReservoirs model decisions seen → ⊥)
  levels_open true decided none all = levels_break decided all none
  levels_open false decided none some = levels_uncertain some

  pub top : IsSettled model decisions → IsTop model decisions seen
  top settled =
      let content = named_content (snapshot_of stored) in
      let found = ending.top model decisions stored.net.tables stored.net.constraints content rest.underway.justified (misses model decisions stored is once rest) rest.consistent settled in
      subst (IsTop model decisions) (one_state content found.0 (names_are_once (snapshot_of stored) is) found.2.consistent.is_state.order found.1) found.2

  fits_least : IsSettled model decisions → ResourcesDecide → FitReusables model decisions seen → FitReservoirs model decisions seen → IsLeast model decisions seen
  fits_least settled law uses levels = (law model decisions seen (top settled)).0 uses levels

  pub unfit_uses : IsSettled model decisions → ResourcesDecide → (FitReusables model decisions seen → ⊥) → IsCollapsed model decisions
  unfit_uses settled law broken = (law model decisions seen (top settled)).1 (inl broken)

  unfit_levels : IsSettled model decisions → ResourcesDecide → (FitReservoirs model decisions seen → ⊥) → IsCollapsed model decisions
  unfit_levels settled law broken = (law model decisions seen (top settled)).1 (inr broken)

  -- where uses fit, it is told by the levels
  pub least_told : IsSettled model decisions → ResourcesDecide → FitReusables model decisions seen → (told : Bool)
      → MatchBool told (FitReservoirs model decisions seen) (FitReservoirs model decisions seen → ⊥) → MatchBool told (IsLeast model decisions seen) (IsCollapsed model decisions)
  least_told settled law uses true levels = fits_least settled law uses levels
  least_told settled law uses false broken = unfit_levels settled law broken
