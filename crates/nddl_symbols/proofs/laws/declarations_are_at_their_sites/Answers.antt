use Rattle.nddl_symbols.proofs.Sites.{at_sites}
use Rattle.nddl_symbols.proofs.laws.declarations_are_at_their_sites.Goals as goal

pub returns : goal.returns
returns c = at_sites
