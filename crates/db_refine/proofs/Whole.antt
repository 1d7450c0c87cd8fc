-- A whole content is a propagated state, but for its order.
use Rattle.std.proofs.Common.{◌≡◌, ℕ, List, Some, arith}
use Rattle.std.specs.Prelude.{slice_get}
use Rattle.std.proofs.lemmas.List.Elements.{All-contains}
use Rattle.domain_core.specs.Domain.{Domain}
use Rattle.eu_name.specs.declared.name.VarName.{VarName}
use Rattle.model_core.specs.declared.decision.Decision.{Decision}
use Rattle.model_core.specs.declared.decision.Decision.TheVariants.{Specify, Activate, Merge, Reject, Order, Constrain, Relate}
use Rattle.model_core.specs.declared.model.Model.{Model}
use Rattle.model_core.specs.State.{State, Gives}
use Rattle.narrow_core.specs.declared.field.Field.{Field}
use Rattle.constraint_net.specs.Networks.{IsConsistent}
use Rattle.constraint_net.specs.declared.constraint.Constraint.{Constraint}
use Rattle.plan_defs.specs.Claims.{Claim}
use Rattle.plan_defs.specs.Closure.{IsPropagatedState, IsRespected}
use Rattle.plan_defs.specs.Consistency.{IsClaimConsistent}
use Rattle.plan_defs.specs.Laws.{AsksAsMuch}
use Rattle.plan_defs.proofs.Lower.{asks_as_much}
use Rattle.eu_name.proofs.Members.{get_below, get_within}
use Rattle.model_core.specs.Content.{Content, shown, AreAlike}
use Rattle.db_refine.specs.Claims.{IsPostedIn}
use Rattle.db_refine.specs.Growth.{IsWhole}
use Rattle.db_refine.proofs.Agreeing.{claim_from}
use Rattle.db_refine.proofs.Alike.{alike_below, alike_back, in_order, in_order_alike, in_order_state}
use Rattle.db_refine.proofs.Owing.{turn_alike}
use Rattle.db_refine.proofs.Showing.{gives_from}
use Rattle.db_refine.proofs.GrownSupport.{has_all}

-- what the one state grants, a like one grants
granted_alike : (one other : State) → AreAlike one other → (decision : Decision) → IsRespected decision one → IsRespected decision other
granted_alike one other alike (Specify name value) granted = λ domain gives. granted domain ((alike.gives name domain).1 gives)
granted_alike one other alike (Activate token) granted = tt
granted_alike one other alike (Merge token target) granted = tt
granted_alike one other alike (Reject token) granted = tt
granted_alike one other alike (Order first second) granted = tt
granted_alike one other alike (Constrain kind arguments) granted = tt
granted_alike one other alike (Relate relation first second) granted = tt

module _ (model : Model) (decisions : List Decision) (tables : List Field) (posted : List Constraint) (content : Content)
    (whole : IsWhole model decisions tables posted content) where
  abbrev state : State
  state = in_order model content whole.is_content

  alike : AreAlike (shown content) state
  alike = in_order_alike model content whole.is_content

  back : AreAlike state (shown content)
  back = alike_back (shown content) state alike

  asks : AsksAsMuch model decisions state (shown content)
  asks = asks_as_much model decisions state (shown content) (alike_below state (shown content) back)

  given : (k : ℕ) (name : VarName) → slice_get content.names k ≡ Some name → (domain : Domain) × (slice_get content.domains k ≡ Some domain) × Gives state name domain
  given k name at =
      let here = get_below content.names k name at in
      let found = get_within content.domains k (let long = whole.is_content.count in omega (arith, long, here)) in
      (found.0, found.1, (alike.gives name found.0).0 (gives_from content.names content.domains k name found.0 at found.1))

  posted_consistent : (claim : Claim) → IsPostedIn content.names posted claim → IsClaimConsistent model state claim
  posted_consistent claim found =
      claim_from state content.names content.domains given model tables whole.fields found.0 claim found.2
      (All-contains (λ constraint. IsConsistent tables constraint content.domains) posted found.0 whole.consistent found.1)

  consistent : IsPropagatedState model decisions state
  consistent = record {
    is_state = in_order_state model content whole.is_content;
    tokens = λ token p. (alike.tokens token).0 ((has_all model decisions content whole.grown).tokens token (asks.tokens token p));
    blocks = λ block entries p. (alike.blocks block).0 ((has_all model decisions content whole.grown).blocks block entries (asks.blocks block entries p));
    in_base = λ name domain gives. whole.in_base name domain ((alike.gives name domain).1 gives);
    respected = λ decision there. granted_alike (shown content) state alike decision (whole.granted decision there);
    claims = λ claim p. posted_consistent claim (whole.claimed claim (asks.claims claim p));
    timelines = λ one other share late.
        let turn = turn_alike model decisions state (shown content) back one other (record { share = share; late = late }) in
        posted_consistent _ (whole.in_turn one other turn);
  }

  pub whole_propagated : (state : State) × AreAlike (shown content) state × IsPropagatedState model decisions state
  whole_propagated = (state, alike, consistent)
