use Rattle.std.proofs.Common.{◌≡◌, [], drop}
use Rattle.nddl_typeexpr.specs.Members.{distinct_from}
use Rattle.nddl_typeexpr.proofs.members.Members.of.Given as goal

-- those so far and those that are left are all
abbrev pub invariant-loop-number : goal.invariant-loop-number
invariant-loop-number l =
    distinct_from l.distinct.keys (drop l.number-index l.numbers) ≡ distinct_from [] l.numbers
