use Rattle.nddl_print.proofs.RoundTrip.{lasting}
use Rattle.nddl_print.proofs.laws.prints_are_lasting.Goals as goal

pub returns : goal.returns
returns c = lasting
