use Rattle.model_core.specs.Decided.{IsTaken}
use Rattle.plan_defs.specs.Terms.{TokenCounts}
use Rattle.db_refusals.proofs.Told.{both_told, first_not}
use Rattle.db_refusals.proofs.tokens.tokens_count.Goals as goal

pub returns-then-token_counts : goal.returns-then-token_counts
returns-then-token_counts c = λ decisions snapshot same told.
    both_told (TokenCounts c.args.model.now (IsTaken decisions) c.args.one.now) (TokenCounts c.args.model.now (IsTaken decisions) c.args.other.now)
    c.token_counts-then-token_counts.result ((c.token_counts.ensures decisions snapshot same told).0 c.if-token_counts.true)
    (c.token_counts-then-token_counts.ensures decisions snapshot same told)

pub returns-else-token_counts : goal.returns-else-token_counts
returns-else-token_counts c = λ decisions snapshot same told.
    first_not (TokenCounts c.args.model.now (IsTaken decisions) c.args.one.now) (TokenCounts c.args.model.now (IsTaken decisions) c.args.other.now)
    c.token_counts.result c.if-token_counts.false (c.token_counts.ensures decisions snapshot same told)
