use Rattle.nddl_laws.proofs.Knowledge.{one_facts}
use Rattle.nddl_laws.proofs.type_laws.a_program_is_known_in_one_way.Goals as goal

pub returns : goal.returns
returns c = one_facts
