use Rattle.std.proofs.Common.{◌≡◌, ◌++◌, drop}
use Rattle.nddl_terms.specs.Readings.{readings_of}
use Rattle.nddl_lower.specs.Arguments.{given_arguments}
use Rattle.nddl_lower.proofs.arguments.arguments.Given as goal

-- what stands for the arguments so far and for those that are left is all, and what the rule has behind these it has behind all
abbrev pub invariant-loop-expr : goal.invariant-loop-expr
invariant-loop-expr l = record {
  grown : (given_arguments (readings_of l.reading) l.turns (drop l.expr-index l.exprs) l.growth).growth
      ≡ (given_arguments (readings_of l.reading) l.turns l.exprs l.fn.growth).growth;
  stands : l.stands ++ (given_arguments (readings_of l.reading) l.turns (drop l.expr-index l.exprs) l.growth).stands
      ≡ (given_arguments (readings_of l.reading) l.turns l.exprs l.fn.growth).stands;
}
