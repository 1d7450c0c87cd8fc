use Rattle.db_refine.proofs.Granting.{limited}
use Rattle.db_refine.proofs.Justifying.{posting_justified, specifying_justified, propagation_justified}
use Rattle.db_refine.proofs.progress.what_is_claimed_may_be_asked.Goals as goal

pub returns-clause-posting : goal.returns-clause-posting
returns-clause-posting c = λ model decisions tables posted content constraint claim is says asked.
    posting_justified model decisions tables posted content is constraint claim says asked

pub returns-clause-specifying : goal.returns-clause-specifying
returns-clause-specifying c = λ model decisions tables posted content name value number change domains is there named limits.
    specifying_justified model decisions tables posted content is name value number there named change domains limits

pub returns-clause-propagation : goal.returns-clause-propagation
returns-clause-propagation c = λ model decisions tables posted content result domains is propagated.
    propagation_justified model decisions tables posted content is result domains propagated

pub returns-clause-granting : goal.returns-clause-granting
returns-clause-granting c = λ model content name value number change domains is named limits some.
    limited model content name value number is named change domains limits some
