use Rattle.std.proofs.Common.{◌≡◌, ◌++◌, drop}
use Rattle.nddl_hierarchy.specs.Facts.{facts_of}
use Rattle.nddl_types.specs.Classes.{declared_fields}
use Rattle.nddl_types.proofs.classes.push_declared_fields.Given as goal

-- the fields so far and those of the members that are left are all
abbrev pub invariant-loop-member : goal.invariant-loop-member
invariant-loop-member l =
    l.fields ++ declared_fields (facts_of l.sources.basis) l.sources.enums.now (drop l.member-index l.members)
    ≡ l.initial.fields ++ declared_fields (facts_of l.sources.basis) l.sources.enums.now l.members
