use Rattle.std.proofs.Common.{◌≡◌, ◌++◌, drop, map}
use Rattle.nddl_instance.specs.Renumbered.{global_term}
use Rattle.nddl_instance.proofs.renumbered.global_terms.Given as goal

-- the terms so far and those of the ones that are left are all
abbrev pub invariant-loop-term : goal.invariant-loop-term
invariant-loop-term l = l.made ++ map (global_term l.count) (drop l.term-index l.terms) ≡ map (global_term l.count) l.terms
