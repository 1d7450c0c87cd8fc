use Rattle.law_examples.proofs.Examples.{overlap_closed, overlap_collides}
use Rattle.law_examples.proofs.tokens.timelines_force_an_order.Goals as goal

pub returns-clause-plain : goal.returns-clause-plain
returns-clause-plain c = overlap_closed

pub returns-clause-timeline : goal.returns-clause-timeline
returns-clause-timeline c = overlap_collides
