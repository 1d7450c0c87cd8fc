use Rattle.nddl_laws.proofs.Left.{leaves_nothing_out}
use Rattle.nddl_laws.proofs.lawful_tables.nothing_is_left_out.Goals as goal

pub returns : goal.returns
returns c = leaves_nothing_out
