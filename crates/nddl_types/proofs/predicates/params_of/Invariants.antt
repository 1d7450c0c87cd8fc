use Rattle.std.proofs.Common.{◌≡◌, ◌++◌, drop}
use Rattle.nddl_hierarchy.specs.Facts.{facts_of}
use Rattle.nddl_declarations.specs.Members.{parameters_of}
use Rattle.nddl_declarations.specs.Declares.{variables_of}
use Rattle.nddl_types.proofs.predicates.params_of.Given as goal

-- the parameters so far and those of the parts that are left are all
abbrev pub invariant-loop-part : goal.invariant-loop-part
invariant-loop-part l =
    l.params ++ variables_of (facts_of l.sources.basis) l.sources.enums.now (parameters_of (drop l.part-index l.parts))
    ≡ variables_of (facts_of l.sources.basis) l.sources.enums.now (parameters_of l.parts)
