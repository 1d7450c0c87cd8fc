use Rattle.nddl_lowering_laws.proofs.Sighted.{relations_have_slots}
use Rattle.nddl_lowering_laws.proofs.seen_laws.relations_have_slots.Goals as goal

pub returns : goal.returns
returns c = relations_have_slots
