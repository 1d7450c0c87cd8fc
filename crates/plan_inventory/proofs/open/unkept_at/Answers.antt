use Rattle.plan_inventory.proofs.Sweeping.{activated_at, by_activated, open_idle}
use Rattle.plan_inventory.proofs.open.unkept_at.Goals as goal

pub unkept_of-requires-clause-activated : goal.unkept_of-requires-clause-activated
unkept_of-requires-clause-activated c = activated_at c.args.plan.now c.args.place c.args.line.now c.in-Some.token.now c.requires.there c.in-Some.ensures

pub returns-in-None : goal.returns-in-None
returns-in-None c =
    open_idle c.args.model.now c.args.plan.now c.args.place (λ token activated. c.in-None.ensures token (by_activated c.args.plan.now c.args.place c.args.line.now token c.requires.there activated))
