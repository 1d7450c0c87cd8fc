use Rattle.nddl_print.proofs.RoundTrip.{read_back}
use Rattle.nddl_print.proofs.laws.prints_are_read_back.Goals as goal

pub returns : goal.returns
returns c = read_back
