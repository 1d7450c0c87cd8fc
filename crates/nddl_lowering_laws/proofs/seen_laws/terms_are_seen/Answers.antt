use Rattle.nddl_lowering_laws.proofs.Sighted.{terms_are_seen}
use Rattle.nddl_lowering_laws.proofs.seen_laws.terms_are_seen.Goals as goal

pub returns : goal.returns
returns c = terms_are_seen
