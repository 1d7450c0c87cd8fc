use Rattle.std.proofs.Common.{refl}
use Rattle.plan_inventory.proofs.Recalling.{recalls_new, recalls_same}
use Rattle.plan_inventory.proofs.recalled.Recalled.ask.Goals as goal

pub returns-then-not-is_of-clause-recalls : goal.returns-then-not-is_of-clause-recalls
returns-then-not-is_of-clause-recalls c =
    recalls_new c.args.model.now c.args.plan.now c.args.found.place c.args.rule c.args.found.token.now _ refl refl c.requires.activated c.marks_of-self.ensures

pub returns-else-not-is_of-clause-marks : goal.returns-else-not-is_of-clause-marks
returns-else-not-is_of-clause-marks c =
    recalls_same c.args.model.now c.args.plan.now c.args.found.place c.args.rule c.args.found.token.now c.args.self.now c.requires.activated c.requires.recalls (c.if-not-is_of.ensures.0 refl)
