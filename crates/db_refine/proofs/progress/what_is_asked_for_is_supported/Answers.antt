use Rattle.db_refine.proofs.Supporting.{root_supported, rule_supported, branch_supported, slot_supported}
use Rattle.db_refine.proofs.progress.what_is_asked_for_is_supported.Goals as goal

pub returns-clause-roots : goal.returns-clause-roots
returns-clause-roots c = root_supported

pub returns-clause-rules : goal.returns-clause-rules
returns-clause-rules c = rule_supported

pub returns-clause-branches : goal.returns-clause-branches
returns-clause-branches c = λ model decisions state block entries place guard then otherwise side supported stands opens.
    branch_supported model decisions state block entries supported place guard then otherwise side stands opens

pub returns-clause-slots : goal.returns-clause-slots
returns-clause-slots c = λ model decisions state block entries slot supported stands. slot_supported model decisions state block entries supported slot stands
