use Rattle.plan_text.proofs.Existing as existing
use Rattle.plan_text.proofs.existence.plans_have_texts.Goals as goal

pub returns-clause-values : goal.returns-clause-values
returns-clause-values c = existing.values_have_texts

pub returns-clause-plans : goal.returns-clause-plans
returns-clause-plans c = existing.plans_have_texts
