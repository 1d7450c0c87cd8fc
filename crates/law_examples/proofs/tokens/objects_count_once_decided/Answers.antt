use Rattle.law_examples.proofs.Examples.{too_little, either_tool_closed, overlap_collides, either_timeline_closed}
use Rattle.law_examples.proofs.tokens.objects_count_once_decided.Goals as goal

pub returns-clause-sure_use : goal.returns-clause-sure_use
returns-clause-sure_use c = too_little

pub returns-clause-open_use : goal.returns-clause-open_use
returns-clause-open_use c = either_tool_closed

pub returns-clause-sure_overlap : goal.returns-clause-sure_overlap
returns-clause-sure_overlap c = overlap_collides

pub returns-clause-open_overlap : goal.returns-clause-open_overlap
returns-clause-open_overlap c = either_timeline_closed
