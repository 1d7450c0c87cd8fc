-- Each valid plan has a state of its own.
use Rattle.std.proofs.Common.{inl, inr, false, List, [], ◌∷◌, refl, subst}
use Rattle.std.specs.Prelude.{Contains}
use Rattle.std.proofs.lemmas.List.Elements.{All-contains}
use Rattle.domain_core.specs.Domain.{Domain}
use Rattle.eu_name.specs.declared.name.Part.{Part}
use Rattle.eu_name.specs.declared.name.Part.TheVariants.{Start, End, Duration}
use Rattle.eu_name.specs.declared.name.TokenName.{TokenName}
use Rattle.eu_name.specs.declared.name.VarName.TheVariants as names
use Rattle.model_core.specs.declared.decision.Decision.{Decision}
use Rattle.model_core.specs.declared.model.Model.{Model}
use Rattle.model_core.specs.declared.rule.Slot.{Slot}
use Rattle.model_core.specs.Blocks.{TokenBlock, IsBlock}
use Rattle.model_core.specs.Entries.{Entries}
use Rattle.model_core.specs.Lawful.{IsLawful, IsToken}
use Rattle.model_core.specs.State.{State, Gives}
use Rattle.model_core.specs.Tokens.{HasToken}
use Rattle.plan_defs.specs.declared.plan.Line.TheVariants as lines
use Rattle.plan_defs.specs.declared.plan.Plan.{Plan}
use Rattle.plan_defs.specs.Broken.{AgreesWith}
use Rattle.plan_defs.specs.Claims.{lasts, HasPart}
use Rattle.plan_defs.specs.Consistency.{IsClaimConsistent, HasField}
use Rattle.plan_defs.specs.PlanStates.{HasLine, IsOpenBlock, IsPlanState}
use Rattle.plan_defs.specs.Plans.{IsPlanOf, IsLineOf}
use Rattle.plan_defs.specs.Valid.{IsValid}
use Rattle.plan_defs.proofs.Completing.{closed_state}
use Rattle.plan_defs.proofs.Lower.{HasBlock-map}
use Rattle.law_states.specs.OwnStates.{Outline, HasClosedState}
use Rattle.law_states.proofs.Making.{Made, MayBeState, made}
use Rattle.law_states.proofs.Outlining.{plans_have_outlines}
use Rattle.law_states.proofs.Valuing.{IsOwnDomain, own_domain, starts, durations, ends, lasting}

module _ (model : Model) (plan : Plan) (lawful : IsLawful model) (of_model : IsPlanOf model plan) (valid : IsValid model plan) (outline : Outline model plan) where
  line_token : (token : TokenName) → HasLine plan token → IsToken model token
  line_token token (inl (values, (fact, there))) =
      let of = All-contains (IsLineOf model) plan.lines (lines.Token token fact values) of_model.lines there in (of.0, of.1)
  line_token token (inr (inl (target, there))) = (All-contains (IsLineOf model) plan.lines (lines.Merged token target) of_model.lines there).0
  line_token token (inr (inr there)) = All-contains (IsLineOf model) plan.lines (lines.Rejected token) of_model.lines there

  open_block : (block : TokenBlock) → IsOpenBlock model plan block → (entries : Entries) × IsBlock model block entries
  open_block block opened = (opened.0, HasBlock-map model _ (λ guard side. Unit {0}) (λ guard side opens. tt) block opened.0 opened.1.has_block)

  tokens_are : (token : TokenName) → Contains outline.tokens token → (slot : Slot) × HasToken model token slot
  tokens_are token there = line_token token ((outline.are_tokens token).0 there)

  blocks_are : (block : TokenBlock) → Contains outline.blocks block → (entries : Entries) × IsBlock model block entries
  blocks_are block there = open_block block ((outline.are_blocks block).0 there)

  block_token : (block : TokenBlock) → Contains outline.blocks block → Contains outline.tokens block.token
  block_token block there =
      let opened = (outline.are_blocks block).0 there in
      let activated = opened.1.activated in
      (outline.are_tokens block.token).1 (inl (activated.0, (false, activated.1)))

  may_be : MayBeState model outline.tokens outline.blocks
  may_be = record {
    tokens_order = outline.tokens_order;
    blocks_order = outline.blocks_order;
    are_tokens = tokens_are;
    are_blocks = blocks_are;
    owned = block_token;
  }

  module _ (made_one : Made model outline.tokens outline.blocks (IsOwnDomain model plan)) where
    abbrev state : State
    state = record { tokens = outline.tokens; blocks = outline.blocks; entries = made_one.entries }

    gives : (token : TokenName) (part : Part) → HasPart model token part → Contains plan.lines (lines.Rejected token) → (domain : Domain) × Gives state (names.Token token part) domain
    gives token part has rejected =
        (made_one.is_state.variables (names.Token token part)).0 ((outline.are_tokens token).1 (inr (inr rejected)), (has.2.0, (has.0, has.1, has.2.1)))

    rejected_lasts : (token : TokenName) → Contains plan.lines (lines.Rejected token) → IsClaimConsistent model state (lasts token)
    rejected_lasts token rejected =
        let of = line_token token (inr (inr rejected)) in
        let start = gives token Start (of.0, of.1, (_, refl)) rejected in
        let duration = gives token Duration (of.0, of.1, (_, refl)) rejected in
        let end = gives token End (of.0, of.1, (_, refl)) rejected in
        record {
          domains = starts model ∷ durations model ∷ ends model ∷ [];
          have = (
            subst (Gives state (names.Token token Start)) ((made_one.are (names.Token token Start) start.0 start.1).time rejected) start.1,
            (
              subst (Gives state (names.Token token Duration)) ((made_one.are (names.Token token Duration) duration.0 duration.1).time rejected) duration.1,
              (
                subst (Gives state (names.Token token End)) ((made_one.are (names.Token token End) end.0 end.1).time rejected) end.1,
                tt,
              ),
            ),
          );
          agree = lasting model lawful (HasField model);
        }

    is_plan_state : IsPlanState model plan state
    is_plan_state = record {
      is_state = made_one.is_state;
      tokens = outline.are_tokens;
      blocks = outline.are_blocks;
      values = λ name value domain its gives. (made_one.are name domain gives).value value its;
      in_base = λ name domain gives. (made_one.are name domain gives).in_base;
      rejected = rejected_lasts;
    }

  pub own_state : (state : State) × IsPlanState model plan state
  own_state =
      let one = made model outline.tokens outline.blocks (IsOwnDomain model plan) may_be (λ name domain is. is.ok)
      (own_domain model plan lawful of_model valid (record { tokens = outline.tokens; blocks = outline.blocks; entries = [] })
      (λ token there. (outline.are_tokens token).0 there) (λ block there. (outline.are_blocks block).0 there)) in
      (state one, is_plan_state one)

pub plan_state : (model : Model) (plan : Plan) → IsLawful model → IsPlanOf model plan → IsValid model plan → (state : State) × IsPlanState model plan state
plan_state model plan lawful of_model valid = own_state model plan lawful of_model valid (plans_have_outlines model plan of_model)

pub plan_closed : (model : Model) (decisions : List Decision) (plan : Plan) → IsLawful model → IsPlanOf model plan → IsValid model plan → AgreesWith model plan decisions
    → HasClosedState model decisions plan
plan_closed model decisions plan lawful of_model valid agrees =
    let own = plan_state model plan lawful of_model valid in
    let closed = closed_state model decisions plan own.0 lawful of_model valid agrees own.1 in
    record { state = own.0; own = own.1; closed = closed.0; values = closed.1 }
