use Rattle.narrow_core.proofs.Three.{like_three}
use Rattle.narrow_core.proofs.laws.a_factor_is_a_second_argument.Goals as goal

pub returns : goal.returns
returns c = like_three
