-- The numbers of a rule's items.
use Rattle.std.specs.Prelude.{◌≡◌, ℕ, ◌+◌, List, [], ◌∷◌, ◌++◌, Some, slice_get}
use Rattle.model_core.specs.declared.item.Item.{Item}
use Rattle.model_core.specs.declared.rule.Entry.{Entry}
use Rattle.model_core.specs.declared.rule.Entry.TheVariants as entry
use Rattle.model_core.specs.declared.rule.Rule.{Rule}
use Rattle.model_core.specs.declared.rule.Side.{Side}
use Rattle.model_core.specs.declared.rule.Side.TheVariants.{Then, Otherwise}
use Rattle.model_core.specs.declared.rule.Turn.{Turn}
use Rattle.model_core.specs.Blocks.{OfItem}
use Rattle.model_core.specs.Entries.{Entries, NoEntry, WithSlot, WithLocal, WithItem, WithBranch}
use Rattle.model_core.specs.Lawful.{item_count}
use Rattle.model_core.specs.Standing.{StandsAt}

-- an item, with the way to the block in which it stands and its place there
pub record PlacedItem : Type 0 where
  pub path : List Turn
  pub place : ℕ
  pub item : Item

-- the way to the block on this side of the branch at this place
abbrev pub turned : List Turn → ℕ → Side → List Turn
turned path place side = path ++ record { entry = place; side = side } ∷ []

-- the items from this place on of the block to which the way leads, those of the blocks in it too, in order of text: the block
-- where a guard is true comes before the one where it is false
abbrev pub items_from : List Turn → ℕ → Entries → List PlacedItem
items_from path place NoEntry = []
items_from path place (WithSlot slot more) = items_from path (place + 1) more
items_from path place (WithLocal local more) = items_from path (place + 1) more
items_from path place (WithItem item more) = record { path = path; place = place; item = item } ∷ items_from path (place + 1) more
items_from path place (WithBranch guard then otherwise more) =
    items_from (turned path place Then) 0 then
    ++ (items_from (turned path place Otherwise) 0 otherwise
    ++ items_from path (place + 1) more)

-- how many items the entry is or holds
abbrev pub items_inside : Entry → ℕ
items_inside (entry.Slot number) = 0
items_inside (entry.Local number) = 0
items_inside (entry.Item item) = 1
items_inside (entry.Branch guard then otherwise) = item_count then + item_count otherwise

-- all items of the rule, open or not: the number of each is how many come before it
abbrev pub rule_items : Rule → List PlacedItem
rule_items rule = items_from [] 0 rule.top

-- the item of this number of the rule
abbrev pub IsItemOf : Rule → ℕ → PlacedItem → Type 0
IsItemOf rule number placed = slice_get (rule_items rule) number ≡ Some placed

-- each item that stands in the rule has a number
abbrev pub ItemsHaveNumbers : Type 0
ItemsHaveNumbers =
    (rule : Rule) (path : List Turn) (place : ℕ) (item : Item)
    → StandsAt rule.top path place (OfItem item)
    → (number : ℕ) × IsItemOf rule number (record { path = path; place = place; item = item })
