-- Where the rest of the way leads from here, the whole way leads from the top, and so are items numbered.
use Rattle.std.proofs.Common.{[], drop, take}
use Rattle.model_core.specs.Entries.{Entries}
use Rattle.model_core.specs.Numbers.{items_from}
use Rattle.model_core.specs.Standing.{LeadsToBlock}
use Rattle.rule_engine.specs.Places.{StandFrom}
use Rattle.rule_engine.proofs.block.block_at.Given as goal

abbrev pub invariant-loop-turn : goal.invariant-loop-turn
invariant-loop-turn l =
    ((block : Entries) → LeadsToBlock l.top l.path block → LeadsToBlock l.at.block.now (drop l.turn-index l.path) block)
    × StandFrom (items_from [] 0 l.top) l.at.first (items_from (take l.turn-index l.path) 0 l.at.block.now)
