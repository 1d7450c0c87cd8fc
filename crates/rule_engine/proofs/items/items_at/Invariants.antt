-- The items so far, with those of what is left, are all, and what is left is numbered from here on.
use Rattle.std.proofs.Common.{◌≡◌, ◌++◌, ◌+◌, List, map, All, drop}
use Rattle.model_core.specs.declared.rule.Turn.{Turn}
use Rattle.model_core.specs.Block.{plain_entries}
use Rattle.model_core.specs.Blocks.{direct}
use Rattle.model_core.specs.Lawful.{item_count}
use Rattle.model_core.specs.Numbers.{PlacedItem, items_from}
use Rattle.rule_engine.specs.declared.items.ItemAt.{ItemAt}
use Rattle.rule_engine.specs.Lists.{item_places}
use Rattle.rule_engine.specs.Places.{StandFrom, IsNumberIn}
use Rattle.rule_engine.proofs.items.items_at.Given as goal

abbrev pub invariant-loop-place : goal.invariant-loop-place
invariant-loop-place l =
    (l.number + item_count (plain_entries (drop l.place l.entries)) ≡ l.first + item_count (plain_entries l.entries))
    × (map (λ (each : ItemAt). each.entry) l.items.items ++ item_places l.place (direct (plain_entries (drop l.place l.entries)))
    ≡ item_places 0 (direct (plain_entries l.entries)))
    × ((items : List PlacedItem) (path : List Turn) → StandFrom items l.first (items_from path 0 (plain_entries l.entries))
    → StandFrom items l.number (items_from path l.place (plain_entries (drop l.place l.entries))) × All (IsNumberIn items path) l.items.items)
