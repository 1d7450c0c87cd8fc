use Rattle.run_load.proofs.posing.pose_model.Goals as goal

pub returns-in-Ok-clause-posed : goal.returns-in-Ok-clause-posed
returns-in-Ok-clause-posed c = c.pose_new.ensures.posed c.args.model c.in-Ok.ensures.made.0
