-- The reasons for which a line is refused, and how a step is answered.
use Rattle.std.specs.Prelude.{ℕ, List, ◌++◌, codes, Result, Ok, Err}
use Rattle.model_core.specs.declared.refusal.Refusal.{Refusal}
use Rattle.model_core.specs.declared.refusal.Refusal.TheVariants as refusals
use Rattle.plan_db.specs.declared.fault.Outcome.{Outcome}
use Rattle.plan_db.specs.declared.fault.Outcome.TheVariants.{Consistent}
use Rattle.plan_db.specs.declared.fault.Outcome.TheVariants as outcome
use Rattle.session_replies.specs.Lines.{with_line_feed}
use Rattle.session_core.specs.declared.reason.RefusalReason.{RefusalReason}
use Rattle.session_core.specs.declared.reason.RefusalReason.TheVariants as reason

-- the word that is printed for the reason against a decision
abbrev pub refusal_word : Refusal → List ℕ
refusal_word refusals.Unknown = codes "unknown"
refusal_word refusals.WrongType = codes "wrong-type"
refusal_word refusals.Decided = codes "decided"
refusal_word refusals.NotInDomain = codes "not-in-domain"
refusal_word refusals.NotActive = codes "not-active"
refusal_word refusals.NotSamePredicate = codes "not-same-predicate"
refusal_word refusals.NotRejectable = codes "not-rejectable"
refusal_word refusals.SameToken = codes "same"
refusal_word refusals.ActiveFull = codes "active-full"

-- the word that is printed for the reason
abbrev pub reason_word : RefusalReason → List ℕ
reason_word reason.Long = codes "long"
reason_word reason.Syntax = codes "syntax"
reason_word reason.Full = codes "full"
reason_word reason.Inconsistent = codes "inconsistent"
reason_word (reason.Decision why) = refusal_word why
reason_word reason.NoDecision = codes "no-decision"
reason_word reason.Nothing = codes "nothing"
reason_word reason.Consistent = codes "consistent"

-- the reply that refuses for this reason
abbrev pub refusal : RefusalReason → List ℕ
refusal why = with_line_feed (codes "refused " ++ reason_word why)

-- how an outcome is printed
abbrev pub outcome_text : Outcome → List ℕ
outcome_text Consistent = with_line_feed (codes "ok")
outcome_text outcome.Inconsistent = with_line_feed (codes "inconsistent")

-- how a step is answered: by its outcome, or by why it isn't made
abbrev pub step_text : Result Outcome RefusalReason → List ℕ
step_text (Ok found) = outcome_text found
step_text (Err why) = refusal why
