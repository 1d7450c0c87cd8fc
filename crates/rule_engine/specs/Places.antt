-- Where the items of a block stand among those of a rule.
use Rattle.std.specs.Prelude.{◌≡◌, ℕ, ◌+◌, List, ◌++◌, length, Some, slice_get, All, map}
use Rattle.model_core.specs.declared.item.Item as what
use Rattle.model_core.specs.declared.rule.Turn.{Turn}
use Rattle.model_core.specs.Blocks.{direct}
use Rattle.model_core.specs.Entries.{Entries}
use Rattle.model_core.specs.Numbers.{PlacedItem, items_from}
use Rattle.rule_engine.specs.declared.items.ItemAt.{ItemAt}
use Rattle.rule_engine.specs.Lists.{item_places}

-- the one list stands in the other from this place on
pub record StandFrom (items : List PlacedItem) (first : ℕ) (part : List PlacedItem) : Type 0 where
  pub before : List PlacedItem
  pub after : List PlacedItem
  pub are : items ≡ before ++ (part ++ after)
  pub count : length before ≡ first

-- the item of this number among these stands at this place of the block to which the way leads
abbrev pub IsNumberIn : List PlacedItem → List Turn → ItemAt → Type 0
IsNumberIn items path found =
    (item : what.Item)
    × (slice_get items found.number ≡ Some (record { path = path; place = found.entry; item = item }))

-- what is found is the items that stand directly in the block, each with its number in each list that has the items of the
-- block from `first` on
pub record AreItemsOf (first : ℕ) (entries : Entries) (found : List ItemAt) : Type 0 where
  pub places : map (λ each. each.entry) found ≡ item_places 0 (direct entries)
  pub numbers : (items : List PlacedItem) (path : List Turn)
      → StandFrom items first (items_from path 0 entries) → All (IsNumberIn items path) found
