use Rattle.session_replies.proofs.Existing as existing
use Rattle.session_replies.proofs.existence.decisions_have_lines.Goals as goal

pub returns-clause-decisions : goal.returns-clause-decisions
returns-clause-decisions c = existing.decisions_have_lines

pub returns-clause-edges : goal.returns-clause-edges
returns-clause-edges c = existing.edges_have_lines

pub returns-clause-flaws : goal.returns-clause-flaws
returns-clause-flaws c = existing.flaws_have_lines
