use Rattle.law_cycles.proofs.Cycling as cycling
use Rattle.law_cycles.proofs.existence.edges_have_cycles.Goals as goal

pub returns : goal.returns
returns c = cycling.edges_have_cycles
