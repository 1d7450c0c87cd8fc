-- The limits that a compiled model keeps.
use Rattle.std.specs.Prelude.{◌<◌, ◌≤◌, ◌^◌, length, count_by}
use Rattle.model_core.specs.declared.model.Model.{Model}
use Rattle.model_core.specs.Lawful.{is_fact}
use Rattle.nddl_problem.specs.Compiled.{compiled_model}
use Rattle.nddl_problem.specs.Known.{Known}
use Rattle.nddl_model_laws.specs.Faultless.{IsFaultless}

-- there are few enums, classes, predicates, objects, roots and facts
pub record HasFew (model : Model) : Type 0 where
  pub enums : length model.enums < 2 ^ 32
  pub classes : length model.classes < 2 ^ 32
  pub preds : length model.preds < 2 ^ 32
  pub objects : length model.objects ≤ 4096
  pub roots : length model.problem.roots ≤ 4096
  pub facts : count_by (λ root. is_fact root.kind) model.problem.roots ≤ 512

-- it is so of each compiled model
abbrev pub KeepsLimits : Type 0
KeepsLimits = (known : Known) → IsFaultless known → HasFew (compiled_model known)
