use Rattle.plan_values.proofs.bases.slot_behind.Goals as goal

pub returns-in-None : goal.returns-in-None
returns-in-None c = λ slot leads. c.in-None.ensures leads.rule leads.has_rule
