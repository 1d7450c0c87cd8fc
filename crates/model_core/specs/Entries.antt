-- Blocks of rules as plain data.
use Rattle.std.specs.Prelude.{ℕ, ◌+◌}
use Rattle.model_core.specs.declared.item.Item.{Item}
use Rattle.model_core.specs.declared.rule.Guard.{Guard}

-- the entries of a block in order: the first, and then those that follow
pub data Entries : Type 0 where
  -- there is none
  NoEntry : Entries
  -- a slot of this number
  WithSlot : ℕ → Entries → Entries
  -- a local of this number
  WithLocal : ℕ → Entries → Entries
  -- what has to hold
  WithItem : Item → Entries → Entries
  -- a guard, the entries of the block that opens where it is true, and those of the block that opens where it is false
  WithBranch : Guard → Entries → Entries → Entries → Entries

-- how many entries there are, those of the blocks in them too, and one more
abbrev pub size_of : Entries → ℕ
size_of NoEntry = 1
size_of (WithSlot slot more) = size_of more + 1
size_of (WithLocal local more) = size_of more + 1
size_of (WithItem item more) = size_of more + 1
size_of (WithBranch guard then otherwise more) = size_of then + (size_of otherwise + size_of more) + 1
