use Rattle.std.specs.Prelude.{◌≡◌, ◌<◌, ℕ, Some}
use Rattle.eu_forest.specs.declared.lineage.Rootedness.TheVariants.{Rooted}
use Rattle.eu_forest.specs.Lines.{rootedness_in}
use Rattle.model_lawful.proofs.parents.are_rooted.Given as goal

abbrev pub invariant-loop-number : goal.invariant-loop-number
invariant-loop-number l = (number : ℕ) → number < l.number → rootedness_in l.lineage.marks.items number ≡ Some Rooted
