use Rattle.nddl_laws.proofs.RuleAnswers.{one_answer}
use Rattle.nddl_laws.proofs.rule_laws.rules_have_one_answer.Goals as goal

pub returns : goal.returns
returns c = one_answer
