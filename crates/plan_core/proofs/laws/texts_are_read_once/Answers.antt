use Rattle.plan_core.proofs.Outcomes.{read_once}
use Rattle.plan_core.proofs.laws.texts_are_read_once.Goals as goal

pub returns : goal.returns
returns c = λ model text one other lawful reads reads' some some'.
    read_once model text one other lawful (record { tokens = c.texts_name_one.ensures.tokens; variables = c.texts_name_one.ensures.variables; spelled = c.names_are_read_back.ensures.one }) reads reads' some some'
