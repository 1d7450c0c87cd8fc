-- How much rules have together.
use Rattle.std.specs.Prelude.{◌≡◌, ℕ, ◌+◌, ◌<◌, Option, Some, None, length}
use Rattle.model_core.specs.declared.rule.Entry.{Entry}
use Rattle.model_core.specs.declared.rule.Rule.{Rule}
use Rattle.model_core.specs.Block.{with_entry}
use Rattle.model_core.specs.Entries.{Entries, NoEntry}
use Rattle.model_core.specs.Lawful.{item_count, guard_count}
use Rattle.model_rules.specs.declared.amounts.Amount.{Amount}
use Rattle.model_rules.specs.declared.amounts.Amount.TheVariants.{Items, Guards}
use Rattle.model_rules.specs.declared.numbers.Sort.{Sort}
use Rattle.model_rules.specs.declared.numbers.Sort.TheVariants.{Slots, Locals}

-- how many items, or guards, stand in the blocks
abbrev pub amount_of : Amount → Entries → ℕ
amount_of Items block = item_count block
amount_of Guards block = guard_count block

-- how many the entry adds
abbrev pub amount_in : Amount → Entry → ℕ
amount_in amount entry = amount_of amount (with_entry entry NoEntry)

-- how many an item adds
abbrev pub item_amount : Amount → ℕ
item_amount Items = 1
item_amount Guards = 0

-- how many a guard adds
abbrev pub guard_amount : Amount → ℕ
guard_amount Items = 0
guard_amount Guards = 1

-- how many slots or locals a rule has
abbrev pub size_in : Sort → Rule → ℕ
size_in Slots rule = length rule.slots
size_in Locals rule = length rule.locals

-- so much room is left behind what takes this much, or it takes more than there is
abbrev pub Leaves : ℕ → ℕ → Option ℕ → Type 0
Leaves room taken (Some left) = left + taken ≡ room
Leaves room taken None = room < taken
