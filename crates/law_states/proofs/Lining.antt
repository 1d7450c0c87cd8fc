-- The tokens of the lines of the plan of a state are those of the state, in order.
use Rattle.std.proofs.Common.{◌≡◌, true, false, List, refl, subst}
use Rattle.std.specs.Prelude.{Contains}
use Rattle.eu_name.specs.declared.name.TokenName.{TokenName}
use Rattle.eu_name.specs.NameOrder.{IsTokenBefore}
use Rattle.eu_name.proofs.Orders.{token_order}
use Rattle.model_core.specs.declared.decision.Decision.{Decision}
use Rattle.model_core.specs.declared.model.Model.{Model}
use Rattle.model_core.specs.State.{State}
use Rattle.plan_defs.specs.declared.plan.Line as the_line
use Rattle.plan_defs.specs.declared.plan.Line.TheVariants as lines
use Rattle.plan_defs.specs.declared.plan.Plan.{Plan}
use Rattle.plan_defs.proofs.Filling.{IsTokensLine, tokens_of, tokens_in, tokens_ordered, tokens_there}
use Rattle.eu_name.proofs.Ordered.{same_members}
use Rattle.plan_defs.specs.StatePlans.{IsLineIn}
use Rattle.law_states.specs.Soundness.{IsFlawlessPlan}
use Rattle.law_states.proofs.Deciding.{Becoming, IsAFact, IsActivatedOne, IsMergedOne, IsRejectedOne}
use Rattle.law_states.proofs.Having.{is_state, becomes_of, takes_line}

module _ (model : Model) (decisions : List Decision) (state : State) (plan : Plan) (is : IsFlawlessPlan model decisions state plan) where
  line_token : (line : the_line.Line) (token : TokenName) → IsLineIn model decisions state line → IsTokensLine line token → Contains state.tokens token
  line_token (lines.Token name fact values) token line e = subst (λ (t : TokenName). Contains state.tokens t) e line.there
  line_token (lines.Merged name target) token line e = subst (λ (t : TokenName). Contains state.tokens t) e line.0
  line_token (lines.Rejected name) token line e = subst (λ (t : TokenName). Contains state.tokens t) e line.0
  line_token (lines.Local name value) token line e = absurd e

  token_line : (token : TokenName) → Contains state.tokens token → Becoming model decisions token → Contains (tokens_of plan.lines) token
  token_line token there (IsAFact fact) =
      let line = takes_line model decisions state plan is true token there fact in tokens_there plan.lines (lines.Token token true line.0) token line.1 refl
  token_line token there (IsActivatedOne activated) =
      let line = takes_line model decisions state plan is false token there activated in tokens_there plan.lines (lines.Token token false line.0) token line.1 refl
  token_line token there (IsMergedOne target merged) =
      tokens_there plan.lines (lines.Merged token target) token ((is.is_plan.lines (lines.Merged token target)).1 (there, merged)) refl
  token_line token there (IsRejectedOne rejected) =
      tokens_there plan.lines (lines.Rejected token) token ((is.is_plan.lines (lines.Rejected token)).1 (there, rejected)) refl

  pub tokens_are : state.tokens ≡ tokens_of plan.lines
  tokens_are = same_members IsTokenBefore token_order.irreflexive token_order.transitive state.tokens (tokens_of plan.lines)
      (is_state model decisions state plan is).order.tokens (tokens_ordered plan.lines is.is_plan.order)
      (λ token there. token_line token there (becomes_of model decisions state plan is token there))
      (λ token there. let found = tokens_in plan.lines token there in line_token found.0 token ((is.is_plan.lines found.0).0 found.1) found.2)
