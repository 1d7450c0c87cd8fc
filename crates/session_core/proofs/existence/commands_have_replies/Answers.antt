use Rattle.session_core.proofs.EdgeLines as edges
use Rattle.session_core.proofs.Existing as existing
use Rattle.session_core.proofs.existence.commands_have_replies.Goals as goal

pub returns-clause-least : goal.returns-clause-least
returns-clause-least c = existing.collapsed_or_least

pub returns-clause-cycles : goal.returns-clause-cycles
returns-clause-cycles c = edges.collapses_have_cycles

pub returns-clause-plain : goal.returns-clause-plain
returns-clause-plain c = existing.plain_commands_have_replies
