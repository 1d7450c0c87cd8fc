use Rattle.session_replies.proofs.Existing as existing
use Rattle.session_replies.proofs.existence.states_have_lines.Goals as goal

pub returns-clause-domains : goal.returns-clause-domains
returns-clause-domains c = existing.domains_have_lines

pub returns-clause-tokens : goal.returns-clause-tokens
returns-clause-tokens c = existing.tokens_have_lines
