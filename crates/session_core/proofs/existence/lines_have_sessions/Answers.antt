use Rattle.session_core.proofs.ExistingLines as existing
use Rattle.session_core.proofs.PlanTexts as plans
use Rattle.session_core.proofs.existence.lines_have_sessions.Goals as goal

pub returns-clause-plans : goal.returns-clause-plans
returns-clause-plans c = plans.flawless_states_have_plan_texts

pub returns-clause-searches : goal.returns-clause-searches
returns-clause-searches c = existing.searches_have_replies

pub returns-clause-answers : goal.returns-clause-answers
returns-clause-answers c = existing.lines_have_answers

pub returns-clause-sessions : goal.returns-clause-sessions
returns-clause-sessions c = existing.lines_have_sessions
