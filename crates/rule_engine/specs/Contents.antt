-- What stands directly in one block of a rule, and under which names and numbers.
use Rattle.std.specs.Prelude.{◌≡◌, ℕ, All, map}
use Rattle.eu_name.specs.declared.name.TokenName.{TokenName}
use Rattle.eu_name.specs.declared.name.VarName.TheVariants.{Local}
use Rattle.model_core.specs.declared.model.Model.{Model}
use Rattle.model_core.specs.declared.rule.Rule.{Rule}
use Rattle.model_core.specs.Blocks.{TokenBlock, IsBlock, direct}
use Rattle.model_core.specs.Entries.{Entries}
use Rattle.model_core.specs.Numbers.{rule_items}
use Rattle.model_core.specs.Tokens.{slot_token}
use Rattle.rule_engine.specs.declared.block.Additions.{Additions}
use Rattle.rule_engine.specs.Lists.{slots_in, locals_in, item_places, branch_places}
use Rattle.rule_engine.specs.Places.{IsNumberIn, AreItemsOf}

-- the additions are what stands directly in the block: its slots and locals by their names, its items by their places, each
-- with its number where the items of the block are numbered from `first` on, and the places of its branches
pub record IsIn (token : TokenName) (rule first : ℕ) (entries : Entries) (additions : Additions) : Type 0 where
  pub slots : additions.slots.items ≡ map (slot_token token rule) (slots_in (direct entries))
  pub locals : additions.locals.items ≡ map (Local token rule) (locals_in (direct entries))
  pub items : AreItemsOf first entries additions.items.items
  pub branches : additions.branches.items ≡ branch_places 0 (direct entries)

-- the additions are what stands directly in the block of the rule: its slots and locals by their names, its items by their
-- places, each with its number in the rule, and the places of its branches
pub record AreOfBlock (block : TokenBlock) (rule : Rule) (entries : Entries) (additions : Additions) : Type 0 where
  pub slots : additions.slots.items ≡ map (slot_token block.token block.rule) (slots_in (direct entries))
  pub locals : additions.locals.items ≡ map (Local block.token block.rule) (locals_in (direct entries))
  pub items : map (λ found. found.entry) additions.items.items ≡ item_places 0 (direct entries)
  pub numbers : All (IsNumberIn (rule_items rule) block.path) additions.items.items
  pub branches : additions.branches.items ≡ branch_places 0 (direct entries)

-- the same of the block that the model has
abbrev pub AreAdditions : Model → TokenBlock → Additions → Type 0
AreAdditions model block additions =
    (entries : Entries) (found : IsBlock model block entries) → AreOfBlock block found.rule entries additions
