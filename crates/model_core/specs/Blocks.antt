-- The blocks of rules, what stands in them, and the way to each.
use Rattle.std.specs.Prelude.{◌≡◌, ℕ, ◌⊎◌, ⊤, List, [], ◌∷◌, Some, slice_get}
use Rattle.eu_name.specs.declared.name.TokenName.{TokenName}
use Rattle.eu_name.specs.NameOrder.{ByNumber, ByToken}
use Rattle.model_core.specs.declared.item.Item.{Item}
use Rattle.model_core.specs.declared.model.Model.{Model}
use Rattle.model_core.specs.declared.rule.Guard.{Guard}
use Rattle.model_core.specs.declared.rule.Rule.{Rule}
use Rattle.model_core.specs.declared.rule.Side.{Side}
use Rattle.model_core.specs.declared.rule.Side.TheVariants.{Then, Otherwise}
use Rattle.model_core.specs.declared.rule.Slot.{Slot}
use Rattle.model_core.specs.declared.rule.Turn.{Turn}
use Rattle.model_core.specs.Entries.{Entries, NoEntry, WithSlot, WithLocal, WithItem, WithBranch}
use Rattle.model_core.specs.Tokens.{HasToken, HasRule}

-- what stands directly in a block: a slot or a local by its number, an item, or a guard with its two blocks
pub data Direct : Type 0 where
  OfSlot : ℕ → Direct
  OfLocal : ℕ → Direct
  OfItem : Item → Direct
  OfBranch : Guard → Entries → Entries → Direct

-- what stands directly in the block, in order
abbrev pub direct : Entries → List Direct
direct NoEntry = []
direct (WithSlot slot more) = OfSlot slot ∷ direct more
direct (WithLocal local more) = OfLocal local ∷ direct more
direct (WithItem item more) = OfItem item ∷ direct more
direct (WithBranch guard then otherwise more) = OfBranch guard then otherwise ∷ direct more

-- the block of a branch on this side
abbrev pub chosen : Side → Entries → Entries → Entries
chosen Then then otherwise = then
chosen Otherwise then otherwise = otherwise

-- the way leads from the one block to the other, and each guard on it allows the side that is taken
abbrev pub Follows : (Guard → Side → Type 0) → Entries → List Turn → Entries → Type 0
Follows Allows top [] block = block ≡ top
Follows Allows top (turn ∷ path) block =
    (guard : Guard) × ((then otherwise : Entries)
    × ((slice_get (direct top) turn.entry ≡ Some (OfBranch guard then otherwise))
    × (Allows guard turn.side × Follows Allows (chosen turn.side then otherwise) path block)))

-- a block of a token: of its rule of this number, the block to which the way leads
pub record TokenBlock : Type 0 where
  pub token : TokenName
  pub rule : ℕ
  pub path : List Turn

-- the model has the block, these entries stand in it, and each guard on the way to it allows the side that is taken
pub record HasBlock (model : Model) (Allows : Guard → Side → Type 0) (block : TokenBlock) (entries : Entries) : Type 0 where
  pub slot : Slot
  pub has_token : HasToken model block.token slot
  pub rule : Rule
  pub has_rule : HasRule model slot.pred block.rule rule
  pub way : Follows Allows rule.top block.path entries

-- the entries of the block, whatever the guards on the way to it are
abbrev pub IsBlock : Model → TokenBlock → Entries → Type 0
IsBlock model block entries = HasBlock model (λ guard side. ⊤) block entries

-- the branch that stands first comes first, and of one branch the block where the guard is true
abbrev pub IsTurnBefore : Turn → Turn → Type 0
IsTurnBefore one other = ByNumber one.entry other.entry ((one.side ≡ Then) × (other.side ≡ Otherwise))

-- a block comes before those in it, and else the first turn that differs decides
abbrev pub IsPathBefore : List Turn → List Turn → Type 0
IsPathBefore one [] = ⊥
IsPathBefore [] (turn ∷ other) = ⊤
IsPathBefore (turn ∷ one) (turn' ∷ other) = IsTurnBefore turn turn' ⊎ ((turn ≡ turn') × IsPathBefore one other)

-- blocks go by token, then by rule, and then in order of text
abbrev pub IsBlockBefore : TokenBlock → TokenBlock → Type 0
IsBlockBefore one other = ByToken one.token other.token (ByNumber one.rule other.rule (IsPathBefore one.path other.path))

-- the block of the token's rule to which this way leads
abbrev pub block_at : TokenName → ℕ → List Turn → TokenBlock
block_at token rule path = record { token = token; rule = rule; path = path }
