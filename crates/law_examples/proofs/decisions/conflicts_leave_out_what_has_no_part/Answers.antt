use Rattle.law_examples.proofs.Settling.{part_conflicts, whole_is_no_conflict, nothing_is_no_conflict}
use Rattle.law_examples.proofs.decisions.conflicts_leave_out_what_has_no_part.Goals as goal

pub returns-clause-part : goal.returns-clause-part
returns-clause-part c = part_conflicts

pub returns-clause-whole : goal.returns-clause-whole
returns-clause-whole c = whole_is_no_conflict

pub returns-clause-nothing : goal.returns-clause-nothing
returns-clause-nothing c = nothing_is_no_conflict
