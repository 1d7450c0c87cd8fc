use Rattle.std.proofs.Common.{◌≡◌, drop}
use Rattle.nddl_hierarchy.specs.Facts.{facts_of}
use Rattle.nddl_resolve.specs.Predicates.{predicate_along}
use Rattle.nddl_resolve.proofs.predicates.predicate_along.Given as goal

-- what is found along those that are left is found along all
abbrev pub invariant-loop-entry : goal.invariant-loop-entry
invariant-loop-entry l =
    predicate_along (facts_of l.basis).names (facts_of l.basis).program l.name (drop l.entry-index l.line)
    ≡ predicate_along (facts_of l.basis).names (facts_of l.basis).program l.name l.line
