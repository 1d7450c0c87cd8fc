use Rattle.db_opening.specs.Parts.{slot_asked}
use Rattle.db_opening.proofs.Parting.{parameter_given, parameter_void}
use Rattle.db_opening.proofs.parts.domain_of.Goals as goal

pub returns-in-Param-clause-given : goal.returns-in-Param-clause-given
returns-in-Param-clause-given c =
    parameter_given c.args.model.now (slot_asked c.args.asked.now) c.args.part c.in-Param.number c.in-Param.is c.requires.there c.parameter_base.result.now c.parameter_base.ensures
    c.base_of.result c.base_of.ensures.given

pub returns-in-Param-clause-void : goal.returns-in-Param-clause-void
returns-in-Param-clause-void c = λ fails.
    parameter_void c.args.model.now (slot_asked c.args.asked.now) c.args.part c.in-Param.number c.in-Param.is c.requires.there c.parameter_base.result.now c.parameter_base.ensures
    (c.base_of.ensures.void fails)
