use Rattle.std.proofs.Common.{◌≡◌, ◌++◌, drop, map}
use Rattle.nddl_env.specs.Lexicons.{given_shape}
use Rattle.nddl_env.proofs.predicates.push_given_shapes.Given as goal

-- the predicates so far and those that are left are all
abbrev pub invariant-loop-pred : goal.invariant-loop-pred
invariant-loop-pred l =
    l.shapes ++ map given_shape (drop l.pred-index l.preds) ≡ l.initial.shapes ++ map given_shape l.preds
