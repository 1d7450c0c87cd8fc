use Rattle.nddl_lowering_laws.proofs.Apart.{places_apart}
use Rattle.nddl_lowering_laws.proofs.seen_laws.places_are_apart.Goals as goal

pub returns : goal.returns
returns c = places_apart
