use Rattle.law_examples.proofs.Examples.{inactive_closed, rule_is_missing}
use Rattle.law_examples.proofs.tokens.rules_open_with_their_token.Goals as goal

pub returns-clause-inactive : goal.returns-clause-inactive
returns-clause-inactive c = inactive_closed

pub returns-clause-active : goal.returns-clause-active
returns-clause-active c = rule_is_missing
