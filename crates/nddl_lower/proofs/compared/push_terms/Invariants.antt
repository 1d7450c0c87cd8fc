use Rattle.std.proofs.Common.{◌≡◌, ◌++◌, drop, map}
use Rattle.nddl_lower.specs.Compared.{compared_term}
use Rattle.nddl_lower.proofs.compared.push_terms.Given as goal

-- the terms so far and those of what is left are all
abbrev pub invariant-loop-stand : goal.invariant-loop-stand
invariant-loop-stand l =
    l.terms ++ map (compared_term l.decimal) (drop l.stand-index l.stands) ≡ l.fn.terms ++ map (compared_term l.decimal) l.stands
