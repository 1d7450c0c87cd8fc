-- The items of a rule one by one, as they are gone through.
use Rattle.std.specs.Prelude.{◌≡◌, ℕ, ◌+◌, ◌<◌, Bool, true, List, [], ◌∷◌, ◌++◌, Some, Result, slice_get, All}
use Rattle.std.specs.Prelude.{MatchBool, MatchResult}
use Rattle.eu_name.specs.declared.name.TokenName.{TokenName}
use Rattle.model_core.specs.declared.rule.Entry.{Entry}
use Rattle.model_core.specs.declared.rule.Entry.TheVariants as entry
use Rattle.model_core.specs.declared.rule.Guard.{Guard}
use Rattle.model_core.specs.declared.rule.Rule.{Rule}
use Rattle.model_core.specs.declared.rule.Side.{Side}
use Rattle.model_core.specs.declared.rule.Side.TheVariants.{Then, Otherwise}
use Rattle.model_core.specs.declared.rule.Slot.{Slot}
use Rattle.model_core.specs.declared.rule.Turn.{Turn}
use Rattle.model_core.specs.declared.model.Model.{Model}
use Rattle.model_core.specs.Blocks.{Follows, direct}
use Rattle.model_core.specs.Entries.{Entries}
use Rattle.model_core.specs.Numbers.{PlacedItem, items_from, turned}
use Rattle.model_core.specs.Tokens.{HasToken, HasRule}
use Rattle.plan_defs.specs.declared.plan.Plan.{Plan}
use Rattle.plan_defs.specs.Terms.{Context}
use Rattle.plan_defs.specs.Valid.{IsTrueInRule}
use Rattle.plan_values.specs.Openings.{Allows, entry_direct}
use Rattle.plan_values.specs.Truths.{IsTrueWhere}

-- the item of this number is the first of the list that fails, where they are numbered from `first` on
pub record FirstFails (P : PlacedItem → Type 0) (first : ℕ) (items : List PlacedItem) (number : ℕ) : Type 0 where
  pub place : ℕ
  pub is_number : number ≡ first + place
  pub placed : PlacedItem
  pub at : slice_get items place ≡ Some placed
  pub fails : P placed → ⊥
  pub before : (earlier : ℕ) (other : PlacedItem) → earlier < place → slice_get items earlier ≡ Some other → P other

-- all pass, or this is the number of the first that fails
abbrev pub Scans : (PlacedItem → Type 0) → ℕ → List PlacedItem → Result ℕ ℕ → Type 0
Scans P first items result = MatchResult result (λ next. All P items) (FirstFails P first items)

-- where the block of the item is open, the item is true
abbrev pub IsTruePlaced : Model → Plan → Context → Entries → PlacedItem → Type 0
IsTruePlaced model plan context top placed =
    (block : Entries) → Follows (Allows model plan context) top placed.path block → IsTrueWhere model plan context placed.item

-- the block with the guard is open, and the guard opens this side
abbrev pub IsOpened : (Guard → Side → Type 0) → Bool → Guard → Side → Type 0
IsOpened Allowed reached guard side = (reached ≡ true) × Allowed guard side

-- no way that begins with this one is open
abbrev pub IsShut : (Guard → Side → Type 0) → Entries → List Turn → Type 0
IsShut Allowed top path = (more : List Turn) (block : Entries) → Follows Allowed top (path ++ more) block → ⊥

-- the way leads to the block, which is open; or what begins with the way isn't
abbrev pub IsReached : (Guard → Side → Type 0) → Entries → List Turn → Entries → Bool → Type 0
IsReached Allowed top path block reached = MatchBool reached (Follows Allowed top path block) (IsShut Allowed top path)

-- the entry stands at the place of such a block
abbrev pub IsEntryReached : (Guard → Side → Type 0) → Entries → List Turn → ℕ → Entry → Bool → Type 0
IsEntryReached Allowed top path place entry reached =
    (block : Entries) × IsReached Allowed top path block reached × (slice_get (direct block) place ≡ Some (entry_direct entry))

-- the items that the entry at this place is or holds
abbrev pub items_of : List Turn → ℕ → Entry → List PlacedItem
items_of path place (entry.Slot number) = []
items_of path place (entry.Local number) = []
items_of path place (entry.Item item) = record { path = path; place = place; item = item } ∷ []
items_of path place (entry.Branch guard then otherwise) =
    items_from (turned path place Then) 0 then ++ items_from (turned path place Otherwise) 0 otherwise

-- the token has this rule of this number
pub record HasRuleOf (model : Model) (token : TokenName) (number : ℕ) (rule : Rule) : Type 0 where
  pub slot : Slot
  pub has_token : HasToken model token slot
  pub has_rule : HasRule model slot.pred number rule

-- each item in open blocks of the token's rule is true
abbrev pub IsAllTrue : Model → Plan → TokenName → ℕ → Type 0
IsAllTrue model plan token rule = (number : ℕ) → IsTrueInRule model plan token rule number

-- the item of this number in an open block of the token's rule isn't true, and those before it are
pub record IsFirstFalse (model : Model) (plan : Plan) (token : TokenName) (rule number : ℕ) : Type 0 where
  pub is_false : IsTrueInRule model plan token rule number → ⊥
  pub before : (earlier : ℕ) → earlier < number → IsTrueInRule model plan token rule earlier
