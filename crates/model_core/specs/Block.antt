-- A block of the code as plain data.
use Rattle.std.specs.Prelude.{List, [], ◌∷◌}
use Rattle.model_core.specs.declared.rule.Entry.{Entry}
use Rattle.model_core.specs.declared.rule.Entry.TheVariants.{Slot, Local, Item, Branch}
use Rattle.model_core.specs.Entries.{Entries, NoEntry, WithSlot, WithLocal, WithItem, WithBranch}

-- any entry before others
abbrev pub with_entry : Entry → Entries → Entries
with_entry (Slot number) more = WithSlot number more
with_entry (Local number) more = WithLocal number more
with_entry (Item item) more = WithItem item more
with_entry (Branch guard then otherwise) more = WithBranch guard then otherwise more

-- entries as the code keeps them, as plain data
abbrev pub plain_entries : List Entry → Entries
plain_entries [] = NoEntry
plain_entries (entry ∷ more) = with_entry entry (plain_entries more)
