-- The variables that come with a block, by the places of tokens.
use Rattle.std.specs.Prelude.{◌≡◌, ℕ, List, Some, slice_get, Contains}
use Rattle.eu_name.specs.declared.name.TokenName.{TokenName}
use Rattle.eu_name.specs.declared.name.VarName.{VarName}
use Rattle.eu_name.specs.declared.name.VarName.TheVariants as name
use Rattle.model_core.specs.declared.model.Model.{Model}
use Rattle.model_core.specs.declared.rule.Rule.{Rule}
use Rattle.model_core.specs.declared.rule.Slot.{Slot}
use Rattle.model_core.specs.declared.variable.Base.{Base}
use Rattle.model_core.specs.declared.variable.VarDecl.{VarDecl}
use Rattle.model_core.specs.Blocks.{IsBlock, direct, OfLocal}
use Rattle.model_core.specs.Entries.{Entries}
use Rattle.model_core.specs.Tokens.{HasRule, HasToken}
use Rattle.token_store.specs.Tokens.{TokenList, token_names, token_preds}
use Rattle.db_store.specs.Keys.{named_block}
use Rattle.db_store.specs.declared.key.OpenBlock.{OpenBlock}
use Rattle.db_store.specs.declared.key.VarKey.{VarKey}
use Rattle.db_store.specs.declared.key.VarKey.TheVariants.{Local}

-- each token is kept with the predicate of its slot
abbrev pub ArePreds : Model → TokenList → Type 0
ArePreds model tokens =
    (place : ℕ) (token : TokenName) (slot : Slot)
    → slice_get (token_names tokens) place ≡ Some token → HasToken model token slot
    → slice_get (token_preds tokens) place ≡ Some slot.pred

-- the predicate's rule of this number declares this local with the base
pub record IsDeclaredLocal (model : Model) (pred rule number : ℕ) (base : Base) : Type 0 where
  pub found : Rule
  pub has_rule : HasRule model pred rule found
  pub variable : VarDecl
  pub declared : slice_get found.locals number ≡ Some variable
  pub is_base : base ≡ variable.base

-- the variable is this local of the token at the place, with its base
pub record WantsLocal (model : Model) (pred place rule number : ℕ) (key : VarKey) (base : Base) : Type 0 where
  pub is : key ≡ Local place rule number
  pub declared : IsDeclaredLocal model pred rule number base

-- the variable is one of these locals of the token at the place, with its base
pub record WantsLocals (model : Model) (pred place rule : ℕ) (owner : TokenName) (locals : List VarName)
    (key : VarKey) (base : Base) : Type 0 where
  pub number : ℕ
  pub listed : Contains locals (name.Local owner rule number)
  pub wants : WantsLocal model pred place rule number key base

-- the name is that of a local of the rule which is declared there
pub record IsNamedLocal (model : Model) (pred rule : ℕ) (owner : TokenName) (local : VarName) : Type 0 where
  pub number : ℕ
  pub is : local ≡ name.Local owner rule number
  pub base : Base
  pub declared : IsDeclaredLocal model pred rule number base

-- the variable is a local that stands in the block, where tokens have these names by place, with its base
pub record WantsOfBlock (model : Model) (names : List TokenName) (block : OpenBlock) (key : VarKey) (base : Base) : Type 0 where
  pub entries : Entries
  pub is_block : IsBlock model (named_block names block) entries
  pub number : ℕ
  pub stands : Contains (direct entries) (OfLocal number)
  pub wants : WantsLocal model is_block.slot.pred block.token block.rule number key base
