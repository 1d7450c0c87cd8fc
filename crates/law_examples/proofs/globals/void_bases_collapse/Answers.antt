use Rattle.law_examples.proofs.Objects.{void_collapses, given_closed}
use Rattle.law_examples.proofs.globals.void_bases_collapse.Goals as goal

pub returns-clause-void : goal.returns-clause-void
returns-clause-void c = void_collapses

pub returns-clause-given : goal.returns-clause-given
returns-clause-given c = given_closed
