use Rattle.std.proofs.Common.{◌≡◌, ◌++◌, drop}
use Rattle.nddl_instance.specs.Outside.{outsides_of}
use Rattle.nddl_instance.specs.Constraints.{outer_arguments}
use Rattle.nddl_instance.proofs.constraints.arguments.Given as goal

-- what stands for the arguments so far and for those that are left is all, and what there is behind these there is behind all
abbrev pub invariant-loop-expr : goal.invariant-loop-expr
invariant-loop-expr l = record {
  grown : (outer_arguments (outsides_of l.outside) (drop l.expr-index l.exprs) l.growth).growth
      ≡ (outer_arguments (outsides_of l.outside) l.exprs l.fn.growth).growth;
  stands : l.stands ++ (outer_arguments (outsides_of l.outside) (drop l.expr-index l.exprs) l.growth).stands
      ≡ (outer_arguments (outsides_of l.outside) l.exprs l.fn.growth).stands;
}
