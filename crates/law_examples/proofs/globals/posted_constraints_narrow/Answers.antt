use Rattle.law_examples.proofs.Narrowing.{posted_least, posted_wide, unposted_closed}
use Rattle.law_examples.proofs.globals.posted_constraints_narrow.Goals as goal

pub returns-clause-narrowed : goal.returns-clause-narrowed
returns-clause-narrowed c = posted_least

pub returns-clause-wide : goal.returns-clause-wide
returns-clause-wide c = posted_wide

pub returns-clause-unposted : goal.returns-clause-unposted
returns-clause-unposted c = unposted_closed
