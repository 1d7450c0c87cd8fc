use Rattle.narrow_core.proofs.field.Field.along.Goals as goal

pub returns-in-Value-clause-same : goal.returns-in-Value-clause-same
returns-in-Value-clause-same c = λ entry. rw (c.as_slice-in-Value.ensures.value, ← c.self.view_is) (c.self.invariant.same entry)
