use Rattle.std.proofs.Common.{◌≡◌, ◌++◌, drop}
use Rattle.nddl_symbols.specs.Names.{declared_members}
use Rattle.nddl_symbols.proofs.declared.push_members.Given as goal

-- the names so far and those of the members that are left are all
abbrev pub invariant-loop-member : goal.invariant-loop-member
invariant-loop-member l =
    l.names ++ declared_members l.decl l.of l.place (drop l.member-index l.members)
    ≡ l.initial.names ++ declared_members l.decl l.of 0 l.members
