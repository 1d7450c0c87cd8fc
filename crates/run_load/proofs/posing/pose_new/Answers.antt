use Rattle.std.proofs.Common.{◌≡◌, false}
use Rattle.plan_db.specs.Answers.{Held}
use Rattle.plan_db.specs.Database.{IsSound}
use Rattle.run_load.proofs.Stages.{model_posed, answered, none_failed}
use Rattle.run_load.proofs.posing.pose_new.Goals as goal

pub returns : goal.returns
returns c = record {
  posed = λ model fresh.
      model_posed model c.take_text-done.new.db c.behind.result c.args.db.database c.take_text-done.result fresh c.behind.ensures
      c.take_text-done.ensures.taken;
  ready = answered c.take_text-done.new.db c.behind.result (λ (db : Held). db.behind ≡ false) c.take_text-done.result c.behind.ensures
      c.take_text-done.ensures.still;
  sound = answered c.take_text-done.new.db c.behind.result (λ (db : Held). IsSound db.database) c.take_text-done.result
      c.behind.ensures c.take_text-done.ensures.sound;
  no_read = none_failed c.take_text-done.new.db c.behind.result c.take_text-done.result c.args.db.database
      c.args.db.database.model.problem.decisions c.behind.ensures c.take_text-done.ensures.taken;
}
