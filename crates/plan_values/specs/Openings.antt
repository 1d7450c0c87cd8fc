-- What a guard reads in a plan, and what stands in the blocks that guards open.
use Rattle.std.specs.Prelude.{◌≡◌, ℕ, ℤ, List, Contains}
use Rattle.eu_name.specs.declared.name.TokenName.{TokenName}
use Rattle.model_core.specs.declared.item.Term.{Term}
use Rattle.model_core.specs.declared.model.Model.{Model}
use Rattle.model_core.specs.declared.rule.Entry.{Entry}
use Rattle.model_core.specs.declared.rule.Entry.TheVariants as entry
use Rattle.model_core.specs.declared.rule.Guard.{Guard}
use Rattle.model_core.specs.declared.rule.Rule.{Rule}
use Rattle.model_core.specs.declared.rule.Side.{Side}
use Rattle.model_core.specs.declared.rule.Slot.{Slot}
use Rattle.model_core.specs.declared.rule.Turn.{Turn}
use Rattle.model_core.specs.Blocks.{Direct, OfSlot, OfLocal, OfItem, OfBranch, Follows, chosen, direct}
use Rattle.model_core.specs.Entries.{Entries}
use Rattle.model_core.specs.Tokens.{HasToken, HasRule}
use Rattle.plan_defs.specs.declared.plan.Plan.{Plan}
use Rattle.plan_defs.specs.Plans.{plan_situation}
use Rattle.plan_defs.specs.Support.{Opens}
use Rattle.plan_defs.specs.Terms.{Context, InRule}
use Rattle.plan_values.specs.Meanings.{CountsAt, HasTermValue}

-- what is said of the term counts, and it has this value
abbrev pub IsRead : Model → Plan → Context → Term → ℤ → Type 0
IsRead model plan context term value = CountsAt model plan context term × HasTermValue plan context term value

-- so it is with both
abbrev pub AreRead : Model → Plan → Context → Term → Term → ℤ → ℤ → Type 0
AreRead model plan context one other v w = IsRead model plan context one v × IsRead model plan context other w

-- the guard opens its block on this side by the values of the plan
abbrev pub Allows : Model → Plan → Context → Guard → Side → Type 0
Allows model plan context guard side = Opens model (plan_situation plan) context guard side

-- the entry, as it stands in a block
abbrev pub entry_direct : Entry → Direct
entry_direct (entry.Slot number) = OfSlot number
entry_direct (entry.Local number) = OfLocal number
entry_direct (entry.Item item) = OfItem item
entry_direct (entry.Branch guard then otherwise) = OfBranch guard then otherwise

-- this stands directly in the block or in one inside of it, where each guard on the way allows the side that is taken
abbrev pub StandsInside : (Guard → Side → Type 0) → Entries → Direct → Type 0
StandsInside Allowed top what =
    (path : List Turn) × ((block : Entries) × Follows Allowed top path block × Contains (direct block) what)

-- the entry is this, or this stands in a block of it on a side that its guard allows
abbrev pub StandsWith : (Guard → Side → Type 0) → Entry → Direct → Type 0
StandsWith Allowed (entry.Slot number) what = what ≡ OfSlot number
StandsWith Allowed (entry.Local number) what = what ≡ OfLocal number
StandsWith Allowed (entry.Item item) what = what ≡ OfItem item
StandsWith Allowed (entry.Branch guard then otherwise) what =
    (side : Side) × Allowed guard side × StandsInside Allowed (chosen side then otherwise) what

-- this stands in an open block of the token's rule of this number
pub record StandsInRule (model : Model) (plan : Plan) (token : TokenName) (number : ℕ) (what : Direct) : Type 0 where
  pub slot : Slot
  pub has_token : HasToken model token slot
  pub rule : Rule
  pub has_rule : HasRule model slot.pred number rule
  pub inside : StandsInside (Allows model plan (InRule token number)) rule.top what
