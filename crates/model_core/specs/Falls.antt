-- A block is larger than those in it.
use Rattle.std.specs.Prelude.{◌≤◌, List, [], ◌∷◌}
use Rattle.std.proofs.Common.{arith}
use denote.Param.Weighed.{most}
use Rattle.model_core.specs.declared.rule.Entry.{Entry}
use Rattle.model_core.specs.declared.rule.Entry.TheVariants.{Slot, Local, Item, Branch}
use Rattle.model_core.specs.declared.rule.Block.TheDeep.{deep-Entry}
use Rattle.model_core.specs.Entries.{Entries, NoEntry, WithSlot, WithLocal, WithItem, WithBranch, size_of}
use Rattle.model_core.specs.Block.{plain_entries}

some : (entries : Entries) → 1 ≤ size_of entries
some NoEntry = omega arith
some (WithSlot slot more) = omega arith
some (WithLocal local more) = omega arith
some (WithItem item more) = omega arith
some (WithBranch guard then otherwise more) = omega arith

-- no entry of a block is as deep as the block is large
pub entries_most_deep : (entries : List Entry) → most deep-Entry entries ≤ size_of (plain_entries entries)
entries_most_deep [] = omega arith
entries_most_deep (Slot number ∷ more) = omega (arith, entries_most_deep more, some (plain_entries more))
entries_most_deep (Local number ∷ more) = omega (arith, entries_most_deep more, some (plain_entries more))
entries_most_deep (Item item ∷ more) = omega (arith, entries_most_deep more, some (plain_entries more))
entries_most_deep (Branch guard then otherwise ∷ more) = omega (arith, entries_most_deep more, some (plain_entries more))
