-- The same problem within an earlier end.
use Rattle.std.specs.Prelude.{ℤ, ◌<ℤ◌, ◌≤ℤ◌}
use Rattle.model_core.specs.declared.model.Model.{Model}
use Rattle.model_core.specs.Lawful.{IsLawful}

-- the model with this end of its horizon
abbrev pub with_end : Model → ℤ → Model
with_end model end = record {
  enums = model.enums;
  classes = model.classes;
  objects = model.objects;
  preds = model.preds;
  rules = model.rules;
  problem = record {
    start = model.problem.start;
    end = end;
    steps = model.problem.steps;
    roots = model.problem.roots;
    globals = model.problem.globals;
    items = model.problem.items;
    decisions = model.problem.decisions;
  };
}

-- a lawful model whose horizon ends earlier is lawful, unless it ends where it begins, or before
abbrev pub EarlierEndsAreLawful : Type 0
EarlierEndsAreLawful =
    (model : Model) (end : ℤ) → IsLawful model → model.problem.start <ℤ end → end ≤ℤ model.problem.end
    → IsLawful (with_end model end)
