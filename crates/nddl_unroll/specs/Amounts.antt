-- How much there is in rules.
use Rattle.std.specs.Prelude.{ℕ, ◌+◌, ◌-◌, ◌*◌, ◌^◌, min}
use Rattle.nddl_unroll.specs.declared.amounts.Amounts.{Amounts}

-- Numbers stay at the greatest one of 64 bits, which is far beyond each limit.

-- the one number and the other
abbrev pub plus : ℕ → ℕ → ℕ
plus one other = min (one + other) (2 ^ 64 - 1)

-- so many times the number
abbrev pub times : ℕ → ℕ → ℕ
times count number = min (count * number) (2 ^ 64 - 1)

-- nothing
abbrev pub no_amounts : Amounts
no_amounts = record { guards = 0; slots = 0; locals = 0; items = 0; turns = 0 }

-- both together
abbrev pub amounts_and : Amounts → Amounts → Amounts
amounts_and one other = record {
  guards = plus one.guards other.guards;
  slots = plus one.slots other.slots;
  locals = plus one.locals other.locals;
  items = plus one.items other.items;
  turns = plus one.turns other.turns;
}

-- so many times the same
abbrev pub amounts_times : ℕ → Amounts → Amounts
amounts_times count some = record {
  guards = times count some.guards;
  slots = times count some.slots;
  locals = times count some.locals;
  items = times count some.items;
  turns = times count some.turns;
}

-- a guard
abbrev pub one_guard : Amounts
one_guard = record no_amounts { guards = 1 }

-- a slot
abbrev pub one_slot : Amounts
one_slot = record no_amounts { slots = 1 }

-- a local
abbrev pub one_local : Amounts
one_local = record no_amounts { locals = 1 }

-- so many items
abbrev pub some_items : ℕ → Amounts
some_items count = record no_amounts { items = count }

-- so many turns
abbrev pub some_turns : ℕ → Amounts
some_turns count = record no_amounts { turns = count }

-- so many fields that are read: for each a local and the item that ties it to its object
abbrev pub some_reads : ℕ → Amounts
some_reads count = record no_amounts { locals = count; items = count }
