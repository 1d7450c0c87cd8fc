use Rattle.std.proofs.Common.{◌≡◌, false, take}
use Rattle.plan_db.specs.Database.{IsSound}
use Rattle.run_load.specs.Posing.{TakesText}
use Rattle.run_load.proofs.taking.take_text.Given as goal

abbrev pub invariant-loop-place : goal.invariant-loop-place
invariant-loop-place l = record {
  model : l.db.database.model ≡ l.initial.db.database.model;
  taken : TakesText l.initial.db.database (take l.place l.initial.db.database.model.problem.decisions) l.db.database;
  ready : l.db.behind ≡ false;
  sound : IsSound l.db.database;
}
