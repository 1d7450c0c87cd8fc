use Rattle.plan_values.proofs.Matching.{match_option}
use Rattle.plan_values.proofs.open.read.Goals as goal

pub returns-then-term_counts : goal.returns-then-term_counts
returns-then-term_counts c =
    match_option c.term_value.result _ _ _ _ (λ none value read. none value read.1) (λ value has. (c.if-term_counts.ensures, has)) c.term_value.ensures
