use Rattle.nddl_whole_laws.proofs.Ruling.{left_lawful}
use Rattle.nddl_whole_laws.proofs.whole_laws.less_is_left_to_show.Goals as goal

pub returns : goal.returns
returns c = left_lawful
