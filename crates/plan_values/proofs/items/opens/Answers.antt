use Rattle.plan_values.proofs.items.opens.Goals as goal

pub returns-in-None : goal.returns-in-None
returns-in-None c = λ opened. c.in-None.ensures c.args.side opened.1
