use Rattle.model_core.proofs.model.Model.local_of.Goals as goal

pub returns-in_err-rule : goal.returns-in_err-rule
returns-in_err-rule c = rw c.from_residual.ensures (λ found variable has stands. c.in_err-rule.ensures found has)
