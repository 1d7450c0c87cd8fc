use Rattle.db_refine.proofs.Deciding.{fits_least, broken_collapsed}
use Rattle.db_refine.proofs.growth.resources_decide.Goals as goal

pub returns : goal.returns
returns c = λ model decisions state is. (fits_least model decisions state is, broken_collapsed model decisions state is)
