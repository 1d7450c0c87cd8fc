use Rattle.tests_database.proofs.asking.plan_seen.Goals as goal

pub seen_plan-requires : goal.seen_plan-requires
seen_plan-requires c = record { held = c.args.db.now; sound = c.requires.sound; model_is = c.requires.model; seen = c.in-Ok.ensures }
