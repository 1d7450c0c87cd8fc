use Rattle.db_opening.specs.Parts.{slot_asked}
use Rattle.db_opening.proofs.Parting.{part_put}
use Rattle.db_opening.proofs.parts.bring_part.Goals as goal

pub returns-clause-brings : goal.returns-clause-brings
returns-clause-brings c =
    part_put c.args.model.now (slot_asked c.args.asked.now) c.args.place c.args.part c.in_ok-domain.domain c.args.store.now c.add_variable.new.self c.in_ok-add_variable.field-0
    c.in_ok-domain.ensures.given c.in_ok-add_variable.ensures.put
