use Rattle.std.proofs.Common.{ℕ, List, inl, inr, subst}
use Rattle.std.specs.Prelude.{Contains}
use Rattle.constraint_net.proofs.agenda.Agenda.enrol.Goals as goal

pub returns-in_err-grow_queue-clause-alone : goal.returns-in_err-grow_queue-clause-alone
returns-in_err-grow_queue-clause-alone c = λ other there. inl (subst (λ (items : List ℕ). Contains items other) c.grow_queue.ensures.items there)

pub returns-in_err-watch-clause-alone : goal.returns-in_err-watch-clause-alone
returns-in_err-watch-clause-alone c = λ other there. inl (subst (λ (items : List ℕ). Contains items other) c.grow_queue.ensures.items there)

pub returns-clause-alone : goal.returns-clause-alone
returns-clause-alone c = λ other there. elim (c.add.ensures.only other there) [
  | inl was ↦ inl (subst (λ (items : List ℕ). Contains items other) c.grow_queue.ensures.items was)
  | inr same ↦ inr same
]
