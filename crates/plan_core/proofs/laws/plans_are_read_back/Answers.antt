use Rattle.plan_core.proofs.Outcomes.{read_back}
use Rattle.plan_core.proofs.Spelled.{text_once}
use Rattle.plan_core.proofs.laws.plans_are_read_back.Goals as goal

pub returns-clause-read : goal.returns-clause-read
returns-clause-read c = λ model plan text answer lawful of written reads some.
    read_back model plan text answer lawful (record { tokens = c.texts_name_one.ensures.tokens; variables = c.texts_name_one.ensures.variables; spelled = c.names_are_read_back.ensures.one }) of written reads some

pub returns-clause-written : goal.returns-clause-written
returns-clause-written c = λ model plan one other is is'. text_once model plan one other is is'
