-- The rule of a block, found by its number.
use Rattle.std.proofs.Common.{◌≡◌, ℕ, List, sym, subst}
use Rattle.eu_name.specs.declared.name.TokenName.{TokenName}
use Rattle.model_core.specs.declared.model.Model.{Model}
use Rattle.model_core.specs.declared.rule.Rule.{Rule}
use Rattle.model_core.specs.declared.rule.Turn.{Turn}
use Rattle.model_core.specs.Blocks.{IsBlock}
use Rattle.model_core.specs.Entries.{Entries}
use Rattle.model_core.specs.Lawful.{IsLawful}
use Rattle.model_core.specs.Standing.{LeadsToBlock}
use Rattle.rule_engine.proofs.Limits.{IsFew, few_rule}

-- the rule that was found and the block in it, with what a lawful model says of them
pub record IsFound (model : Model) (found : Rule) (path : List Turn) (block : Entries) : Type 0 where
  pub pred : ℕ
  pub few : IsFew model pred found
  pub way : LeadsToBlock found.top path block

pub found_by : (model : Model) (token : TokenName) (number : ℕ) (path : List Turn) (entries : Entries) (found : Rule) → IsLawful model
    → (is : IsBlock model (record { token = token; rule = number; path = path }) entries) → found ≡ is.rule → IsFound model found path entries
found_by model token number path entries found lawful is same = record {
  pred = is.slot.pred;
  few = subst (λ r. IsFew model is.slot.pred r) (sym same) (few_rule model is.slot.pred number is.rule lawful is.has_rule);
  way = subst (λ (r : Rule). LeadsToBlock r.top path entries) (sym same) is.way;
}
