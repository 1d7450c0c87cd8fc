-- Roots are supported, and so is what an activated token and an open block ask for, if they are.
use Rattle.std.proofs.Common.{◌≡◌, ℕ, List, [], Some, inl, inr, subst}
use Rattle.std.specs.Prelude.{Contains, slice_get}
use Rattle.eu_name.specs.declared.name.Step.{Step}
use Rattle.eu_name.specs.declared.name.TokenName.{TokenName}
use Rattle.model_core.specs.declared.decision.Decision.{Decision}
use Rattle.model_core.specs.declared.model.Model.{Model}
use Rattle.model_core.specs.declared.model.Root.{Root}
use Rattle.model_core.specs.declared.rule.Guard.{Guard}
use Rattle.model_core.specs.declared.rule.Side.{Side}
use Rattle.model_core.specs.Blocks.{TokenBlock, IsBlock, OfBranch, OfSlot, chosen, direct, block_at}
use Rattle.model_core.specs.Decided.{IsActivated}
use Rattle.model_core.specs.Entries.{Entries}
use Rattle.model_core.specs.Numbers.{turned}
use Rattle.model_core.specs.State.{State}
use Rattle.model_core.specs.Tokens.{IsRoot, root_token, slot_token}
use Rattle.plan_defs.specs.Resources.{OpensIn}
use Rattle.plan_defs.specs.Situations.{situation_of}
use Rattle.plan_defs.specs.Support.{Opens, AsksFor, IsSupportedToken, IsSupportedBlock, front_token}
use Rattle.plan_defs.specs.Terms.{InRule}
use Rattle.model_core.proofs.Blocks.{Follows-push}
use Rattle.eu_name.proofs.Places.{no_split, last_cases}

module _ (model : Model) (decisions : List Decision) (state : State) where
  pub root_supported : (number : ℕ) (root : Root) → IsRoot model number root → IsSupportedToken model (situation_of decisions state) (root_token number)
  root_supported number root is_root = record { root = root; is_root = is_root; asked = λ front step back e. absurd (no_split front step back e) }

  pub rule_supported : (token : TokenName) (rule : ℕ) (entries : Entries) → IsSupportedToken model (situation_of decisions state) token → IsActivated decisions token
      → IsBlock model (block_at token rule []) entries → IsSupportedBlock model (situation_of decisions state) (block_at token rule []) entries
  rule_supported token rule entries supported activated is = record {
    supported = supported;
    is_open = record {
      activated = activated;
      has_block = record { slot = is.slot; has_token = is.has_token; rule = is.rule; has_rule = is.has_rule; way = is.way };
    };
  }

  module _ (block : TokenBlock) (entries : Entries) (supported : IsSupportedBlock model (situation_of decisions state) block entries) where
    pub branch_supported : (place : ℕ) (guard : Guard) (then otherwise : Entries) (side : Side)
        → slice_get (direct entries) place ≡ Some (OfBranch guard then otherwise) → OpensIn model decisions state block guard side
        → IsSupportedBlock model (situation_of decisions state) (block_at block.token block.rule (turned block.path place side)) (chosen side then otherwise)
    branch_supported place guard then otherwise side stands opens =
        let has = supported.is_open.has_block in
        record {
          supported = supported.supported;
          is_open = record {
            activated = supported.is_open.activated;
            has_block = record {
              slot = has.slot;
              has_token = has.has_token;
              rule = has.rule;
              has_rule = has.has_rule;
              way = Follows-push (Opens model (situation_of decisions state) (InRule block.token block.rule)) has.rule.top block.path place side entries guard then otherwise
                  has.way stands opens;
            };
          };
        }

    pub slot_supported : (slot : ℕ) → Contains (direct entries) (OfSlot slot) → IsSupportedToken model (situation_of decisions state) (slot_token block.token block.rule slot)
    slot_supported slot stands =
        let step : Step = record { rule = block.rule; slot = slot } in
        let asks : AsksFor model (situation_of decisions state) block.token step =
        record { path = block.path; entries = entries; is_open = supported.is_open; stands = stands } in
        record {
          root = supported.supported.root;
          is_root = supported.supported.is_root;
          asked = λ front other back e. elim (last_cases block.token.steps front step other back e) [
            | inl last ↦ subst (λ (steps : List Step). AsksFor model (situation_of decisions state) (front_token block.token steps) other) last.0
                (subst (AsksFor model (situation_of decisions state) block.token) last.1 asks)
            | inr inner ↦ supported.supported.asked front other inner.0 inner.1
          ];
        }
