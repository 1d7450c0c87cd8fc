use Rattle.plan_values.proofs.declared.is_declared_part.Goals as goal

pub returns-in-None : goal.returns-in-None
returns-in-None c = λ declared. c.in-None.ensures declared.1.0 declared.1.1
