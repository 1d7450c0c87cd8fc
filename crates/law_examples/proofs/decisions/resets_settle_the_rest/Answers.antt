use Rattle.law_examples.proofs.Settling.{quantity_drops, quantity_is_not_kept}
use Rattle.law_examples.proofs.decisions.resets_settle_the_rest.Goals as goal

pub returns-clause-dropped : goal.returns-clause-dropped
returns-clause-dropped c = quantity_drops

pub returns-clause-not_kept : goal.returns-clause-not_kept
returns-clause-not_kept c = quantity_is_not_kept
