-- The items so far and those that follow are what is wanted.
use Rattle.std.proofs.Common.{◌-◌}
use Rattle.nddl_grammar.specs.Readers.{many}
use Rattle.nddl_grammar.proofs.Walking.{Onward}
use Rattle.nddl_grammar.proofs.list.many.Given as goal

abbrev pub invariant-loop-turn : goal.invariant-loop-turn
invariant-loop-turn g l = Onward l.items g.T.Item.first g.T.Item.reader (l.turn-end - l.turn) l.cursor (many g.T.Item.first g.T.Item.reader l.fn.cursor)
