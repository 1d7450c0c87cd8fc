use Rattle.law_examples.proofs.Settling.{history_with_reset, no_two_at_once, begins_with_nothing}
use Rattle.law_examples.proofs.decisions.histories_go_on_step_by_step.Goals as goal

pub returns-clause-reset : goal.returns-clause-reset
returns-clause-reset c = history_with_reset

pub returns-clause-two_at_once : goal.returns-clause-two_at_once
returns-clause-two_at_once c = no_two_at_once

pub returns-clause-begun : goal.returns-clause-begun
returns-clause-begun c = begins_with_nothing
