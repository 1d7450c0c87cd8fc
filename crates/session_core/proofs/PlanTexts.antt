-- The least state of a settled list that has no flaw has a plan with a text.
use Rattle.std.proofs.Common.{◌<◌, ◌≤◌, inl, inr, List, length, arith}
use Rattle.std.specs.Prelude.{Contains}
use Rattle.std.proofs.lemmas.Bool.{cases_lt}
use Rattle.eu_name.specs.declared.name.TokenName.{TokenName}
use Rattle.eu_name.specs.declared.name.VarName.TheVariants as variables
use Rattle.eu_name.proofs.Members.{get_within}
use Rattle.model_core.specs.declared.decision.Decision.{Decision}
use Rattle.model_core.specs.declared.model.Model.{Model}
use Rattle.model_core.specs.Lawful.{IsToken}
use Rattle.model_core.specs.State.{State}
use Rattle.plan_defs.specs.declared.plan.Line.{Line}
use Rattle.plan_defs.specs.declared.plan.Line.TheVariants as lines
use Rattle.plan_defs.specs.declared.plan.Plan.{Plan}
use Rattle.plan_defs.specs.Flaws.{HasFlaw}
use Rattle.plan_defs.specs.Plans.{IsLineOf}
use Rattle.plan_defs.specs.StatePlans.{IsLineIn, IsStatePlan, IsSettledState}
use Rattle.plan_defs.proofs.Admitting.{target_of_model, token_of_state}
use Rattle.plan_defs.proofs.Determining.{part_value}
use Rattle.plan_defs.proofs.Kinding.{pred_of_slot, token_values, local_value, global_value}
use Rattle.plan_defs.proofs.Stating.{takes_not_rejected}
use Rattle.plan_text.specs.Existence.{IsPlanOfAnyLength}
use Rattle.plan_text.proofs.Existing.{plans_have_texts}
use Rattle.law_states.proofs.Making.{all_members}
use Rattle.law_states.proofs.Planning.{flawless_states_have_plans}
use Rattle.session_core.specs.Existence.{FlawlessStatesHavePlanTexts}

module _ (model : Model) (decisions : List Decision) (state : State) (settled : IsSettledState model decisions state) (flawless : HasFlaw model decisions state → ⊥) where
  token_there : (token : TokenName) → Contains state.tokens token → IsToken model token
  token_there token there = token_of_state model state token settled.consistent.is_state there

  line_of : (line : Line) → IsLineIn model decisions state line → IsLineOf model line
  line_of (lines.Token token fact values) is =
      let has = token_there token is.there in
      let pred = pred_of_slot model token has.0 settled.lawful has.1 in (
        has.0,
        has.1,
        token_values model settled.lawful state settled.consistent.in_base token has.0 pred.0 values has.1 pred.1 is.values_are
            (λ part base part_base. part_value model decisions state settled.consistent token has.0 is.there has.1
            (takes_not_rejected model decisions state settled fact token is.takes_place) part base part_base (λ flaw is_flaw. absurd (flawless (flaw, is_flaw)))),
      )
  line_of (lines.Merged token target) is = (token_there token is.0, target_of_model model decisions token target settled.settled is.1)
  line_of (lines.Rejected token) is = token_there token is.0
  line_of (lines.Local (variables.Global number) value) is = absurd is
  line_of (lines.Local (variables.Token token part) value) is = absurd is
  line_of (lines.Local (variables.Local token rule number) value) is =
      local_value model settled.lawful state settled.consistent.in_base token rule number value is.1

  few_globals : (plan : Plan) → IsStatePlan model decisions state plan → length plan.globals ≤ length model.problem.globals
  few_globals plan is = elim (cases_lt (length model.problem.globals) (length plan.globals)) [
    | inl more ↦
        let got = get_within plan.globals (length model.problem.globals) more in
        let gives = (is.globals (length model.problem.globals) got.0).0 got.1 in
        let about : length model.problem.globals < length model.problem.globals =
        (settled.consistent.is_state.variables (variables.Global (length model.problem.globals))).1 (gives.0, gives.1) in
        absurd (omega (arith, about))
    | inr few ↦ few
  ]

  of_model : (plan : Plan) → IsStatePlan model decisions state plan → IsPlanOfAnyLength model plan
  of_model plan is = record {
    few_globals = few_globals plan is;
    globals = λ number value variable at is_global.
        global_value model settled.lawful state settled.consistent.in_base number value variable ((is.globals number value).0 at) is_global;
    lines = all_members (IsLineOf model) plan.lines (λ line there. line_of line ((is.lines line).0 there));
    order = is.order;
  }

pub flawless_states_have_plan_texts : FlawlessStatesHavePlanTexts
flawless_states_have_plan_texts model decisions state lawful settled least flawless none =
    let is : IsSettledState model decisions state = record { lawful = lawful; settled = settled; consistent = least.closed.consistent } in
    flawless_states_have_plans model decisions state is flawless (λ found.
    let text = plans_have_texts model found.0 lawful (of_model model decisions state is flawless found.0 found.1) in
    none (found.0, (text.0, (found.1, text.1))))
