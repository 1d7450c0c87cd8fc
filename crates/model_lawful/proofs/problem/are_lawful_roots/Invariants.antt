use Rattle.std.specs.Prelude.{take, All}
use Rattle.model_core.specs.Lawful.{IsLawfulRoot}
use Rattle.model_lawful.proofs.problem.are_lawful_roots.Given as goal

abbrev pub invariant-loop-root : goal.invariant-loop-root
invariant-loop-root l = All (IsLawfulRoot l.model) (take l.root-index l.roots)
