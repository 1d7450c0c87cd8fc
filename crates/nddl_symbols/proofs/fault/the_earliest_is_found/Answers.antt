use Rattle.nddl_symbols.proofs.Earliest.{finds_earliest}
use Rattle.nddl_symbols.proofs.fault.the_earliest_is_found.Goals as goal

pub returns : goal.returns
returns c = finds_earliest
