-- The items so far and those that follow are what is wanted.
use Rattle.std.proofs.Common.{◌-◌, ◌++◌}
use Rattle.nddl_grammar.specs.Readers.{is, mapped, after, following}
use Rattle.nddl_grammar.proofs.Walking.{Onward}
use Rattle.nddl_grammar.proofs.list.with_following.Given as goal

abbrev pub invariant-loop-turn : goal.invariant-loop-turn
invariant-loop-turn g l =
    Onward l.all (is l.separator) (after l.separator g.T.Item.reader) (l.turn-end - l.turn) l.cursor (mapped (λ more. l.fn.items ++ more) (following l.separator g.T.Item.reader) l.fn.cursor)
