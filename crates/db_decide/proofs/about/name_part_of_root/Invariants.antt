use Rattle.std.proofs.Common.{take}
use Rattle.std.specs.Prelude.{All}
use Rattle.model_core.specs.declared.item.Term.{Term}
use Rattle.db_decide.specs.RootItems.{IsPartOfRoot}
use Rattle.db_decide.proofs.about.name_part_of_root.Given as goal

abbrev pub invariant-loop-term : goal.invariant-loop-term
invariant-loop-term l = All (λ (term : Term). IsPartOfRoot l.root term → ⊥) (take l.term-index l.terms)
