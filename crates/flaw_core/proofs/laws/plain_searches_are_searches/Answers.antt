use Rattle.flaw_core.proofs.Stated.{visit_named}
use Rattle.flaw_core.proofs.laws.plain_searches_are_searches.Goals as goal

pub returns : goal.returns
returns c = λ model bound units decisions outcome searches. visit_named model bound units units decisions outcome searches
