use Rattle.std.proofs.Common.{⊎_elim}
use Rattle.plan_values.proofs.lines.is_taken.Goals as goal

pub returns-in-None : goal.returns-in-None
returns-in-None c = λ taken. ⊎_elim c.if-is_activated.ensures (λ merged. c.in-None.ensures merged.0 merged.1) taken
