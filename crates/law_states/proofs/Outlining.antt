-- The tokens and the open blocks of a plan, in order.
use Rattle.std.proofs.Common.{inl, inr, ⊎_elim, List, [], ◌∷◌}
use Rattle.std.specs.Prelude.{Contains}
use Rattle.eu_name.specs.declared.name.TokenName.{TokenName}
use Rattle.eu_name.specs.NameOrder.{IsTokenBefore}
use Rattle.eu_name.proofs.Orders.{token_order}
use Rattle.model_core.specs.Blocks.{IsBlockBefore}
use Rattle.plan_defs.specs.declared.plan.Line as the_line
use Rattle.plan_defs.specs.declared.plan.Line.TheVariants as lines
use Rattle.plan_defs.specs.declared.plan.Plan.{Plan}
use Rattle.plan_defs.specs.PlanStates.{HasLine}
use Rattle.eu_name.proofs.Ordered.{contains_head}
use Rattle.law_states.specs.OwnStates.{Outline, PlansHaveOutlines}
use Rattle.plan_defs.proofs.Knowing.{IsOrNot}
use Rattle.law_states.proofs.Listing.{gather, gathered, Sifted, sift, in_order}
use Rattle.law_states.proofs.Opening.{OpenBlocks, open_blocks}
use Rattle.law_states.proofs.Paths.{block_order}
use Rattle.law_states.proofs.Telling.{own_or_not, merged_or_not, rejected_or_not}

-- the token that has this line
named_in : the_line.Line → List TokenName
named_in (lines.Token name fact values) = name ∷ []
named_in (lines.Merged name target) = name ∷ []
named_in (lines.Rejected name) = name ∷ []
named_in (lines.Local name value) = []

module _ (plan : Plan) where
  has_line_or_not : (token : TokenName) → IsOrNot (HasLine plan token)
  has_line_or_not token = elim (own_or_not plan token) [
    | inl takes ↦ inl (inl takes)
    | inr own ↦ elim (merged_or_not plan token) [
      | inl merged ↦ inl (inr (inl merged))
      | inr merges ↦ elim (rejected_or_not plan token) [
        | inl rejected ↦ inl (inr (inr rejected))
        | inr rejects ↦ inr (λ has. ⊎_elim own (λ other. ⊎_elim merges rejects other) has)
      ]
    ]
  ]

  named : (token : TokenName) → HasLine plan token → Contains (gather named_in plan.lines) token
  unfolding named_in
  named token (inl takes) = gathered named_in plan.lines (lines.Token token takes.1.0 takes.0) token takes.1.1 (contains_head token [])
  named token (inr (inl merged)) = gathered named_in plan.lines (lines.Merged token merged.0) token merged.1 (contains_head token [])
  named token (inr (inr rejected)) = gathered named_in plan.lines (lines.Rejected token) token rejected (contains_head token [])

  -- the tokens with a line, in no order
  lined : Sifted (HasLine plan) (gather named_in plan.lines)
  lined = sift (HasLine plan) has_line_or_not (gather named_in plan.lines)

pub plans_have_outlines : PlansHaveOutlines
plans_have_outlines model plan is_plan =
    by (lined plan) (open_blocks model plan is_plan)
  where
    by : Sifted (HasLine plan) (gather named_in plan.lines) → OpenBlocks model plan is_plan → Outline model plan
    by some opened_blocks =
        let tokens = in_order IsTokenBefore token_order some.list in
        let blocks = in_order IsBlockBefore block_order opened_blocks.list in
        record {
          tokens = tokens.list;
          blocks = blocks.list;
          tokens_order = tokens.order;
          blocks_order = blocks.order;
          are_tokens = λ token. (
            λ there. ((some.are token).0 ((tokens.are token).0 there)).1,
            λ has. (tokens.are token).1 ((some.are token).1 (named plan token has, has)),
          );
          are_blocks = λ block. (
            λ there. (opened_blocks.are block).0 ((blocks.are block).0 there),
            λ opened. (blocks.are block).1 ((opened_blocks.are block).1 opened),
          );
        }
