-- A state without a flaw is the own state of its plan.
use Rattle.std.proofs.Common.{ℤ, true, false, List, inl, inr, refl, subst}
use Rattle.std.specs.Prelude.{Contains}
use Rattle.domain_core.specs.Domain.{Domain, IsSingle}
use Rattle.eu_name.specs.declared.name.TokenName.{TokenName}
use Rattle.eu_name.specs.declared.name.VarName.{VarName}
use Rattle.model_core.specs.declared.decision.Decision.{Decision}
use Rattle.model_core.specs.declared.model.Model.{Model}
use Rattle.model_core.specs.Blocks.{TokenBlock}
use Rattle.model_core.specs.State.{State, Gives}
use Rattle.plan_defs.specs.declared.plan.Line.TheVariants as lines
use Rattle.plan_defs.specs.declared.plan.Plan.{Plan}
use Rattle.plan_defs.specs.Claims.{lasts}
use Rattle.plan_defs.specs.Plans.{GivesValue}
use Rattle.plan_defs.specs.PlanStates.{HasLine, IsOpenBlock, IsPlanState}
use Rattle.plan_defs.proofs.States.{gives_same}
use Rattle.law_states.specs.Soundness.{IsFlawlessPlan}
use Rattle.law_states.proofs.Asking.{block_there}
use Rattle.law_states.proofs.Deciding.{Becoming, IsAFact, IsActivatedOne, IsMergedOne, IsRejectedOne}
use Rattle.law_states.proofs.Having.{is_state, becomes_of, takes_line}
use Rattle.law_states.proofs.OpenAlike.{value_up, open_up}

module _ (model : Model) (decisions : List Decision) (state : State) (plan : Plan) (is : IsFlawlessPlan model decisions state plan) where
  has_line : (token : TokenName) → Contains state.tokens token → Becoming model decisions token → HasLine plan token
  has_line token there (IsAFact fact) = let line = takes_line model decisions state plan is true token there fact in inl (line.0, (true, line.1))
  has_line token there (IsActivatedOne activated) = let line = takes_line model decisions state plan is false token there activated in inl (line.0, (false, line.1))
  has_line token there (IsMergedOne target merged) = inr (inl (target, (is.is_plan.lines (lines.Merged token target)).1 (there, merged)))
  has_line token there (IsRejectedOne rejected) = inr (inr ((is.is_plan.lines (lines.Rejected token)).1 (there, rejected)))

  line_there : (token : TokenName) → HasLine plan token → Contains state.tokens token
  line_there token (inl (values, takes)) = ((is.is_plan.lines (lines.Token token takes.0 values)).0 takes.1).there
  line_there token (inr (inl (target, there))) = ((is.is_plan.lines (lines.Merged token target)).0 there).0
  line_there token (inr (inr there)) = ((is.is_plan.lines (lines.Rejected token)).0 there).0

  value_kept : (name : VarName) (value : ℤ) (domain : Domain) → GivesValue plan name value → Gives state name domain → IsSingle domain value
  value_kept name value domain gives there =
      let up = value_up model decisions state plan is name value gives in
      subst (λ d. IsSingle d value) (gives_same state (is_state model decisions state plan is).order name up.0 domain up.1 there) up.2

  open_block : (block : TokenBlock) → Contains state.blocks block → IsOpenBlock model plan block
  open_block block there =
      let ground = is.founded.blocks block there in (ground.0, open_up model decisions state plan is block ground.0 ground.1.is_open)

  pub own_state : IsPlanState model plan state
  own_state = record {
    is_state = is_state model decisions state plan is;
    tokens = λ token. ((λ there. has_line token there (becomes_of model decisions state plan is token there)), line_there token);
    blocks = λ block. (open_block block, λ opened. block_there model decisions state plan is block opened.0 opened.1);
    values = value_kept;
    in_base = is.settled.consistent.in_base;
    rejected = λ token there.
        is.settled.consistent.claims (lasts token) (inr (inr (inl (record { token = token; there = ((is.is_plan.lines (lines.Rejected token)).0 there).0; says = refl }))));
  }
