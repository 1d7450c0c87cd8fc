use Rattle.nddl_object_laws.proofs.Places.{numbers_are_places}
use Rattle.nddl_object_laws.proofs.laws.numbers_are_places.Goals as goal

pub returns : goal.returns
returns c = numbers_are_places
