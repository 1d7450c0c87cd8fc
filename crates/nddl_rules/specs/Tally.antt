-- How many turns, locals and slots have a number.
use Rattle.std.specs.Prelude.{◌+◌}
use Rattle.nddl_rules.specs.declared.sight.Tally.{Tally}

-- nothing has a number yet
abbrev pub no_tally : Tally
no_tally = record { turns = 0; locals = 0; slots = 0 }

abbrev pub turn_more : Tally → Tally
turn_more tally = record { turns = tally.turns + 1; locals = tally.locals; slots = tally.slots }

abbrev pub local_more : Tally → Tally
local_more tally = record { turns = tally.turns; locals = tally.locals + 1; slots = tally.slots }

abbrev pub slot_more : Tally → Tally
slot_more tally = record { turns = tally.turns; locals = tally.locals; slots = tally.slots + 1 }
