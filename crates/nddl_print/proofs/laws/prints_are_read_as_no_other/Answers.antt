use Rattle.nddl_print.proofs.RoundTrip.{read_as_no_other}
use Rattle.nddl_print.proofs.laws.prints_are_read_as_no_other.Goals as goal

pub returns : goal.returns
returns c = read_as_no_other
