use Rattle.law_cycles.proofs.Edging as edging
use Rattle.law_cycles.proofs.existence.databases_have_edges.Goals as goal

pub returns : goal.returns
returns c = edging.databases_have_edges
