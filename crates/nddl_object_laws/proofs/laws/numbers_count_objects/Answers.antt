use Rattle.nddl_object_laws.proofs.Places.{numbers_count}
use Rattle.nddl_object_laws.proofs.laws.numbers_count_objects.Goals as goal

pub returns : goal.returns
returns c = numbers_count
