use Rattle.model_core.specs.declared.item.Rel.TheVariants as rel
use Rattle.law_examples.specs.Relations.{thirteen}
use Rattle.law_examples.proofs.Rows.{row}
use Rattle.law_examples.proofs.relations.rows_of_the_relations.Goals as goal

pub returns-clause-any : goal.returns-clause-any
returns-clause-any c = row rel.Any thirteen

pub returns-clause-before : goal.returns-clause-before
returns-clause-before c = row rel.Before thirteen

pub returns-clause-after : goal.returns-clause-after
returns-clause-after c = row rel.After thirteen

pub returns-clause-meets : goal.returns-clause-meets
returns-clause-meets c = row rel.Meets thirteen

pub returns-clause-met_by : goal.returns-clause-met_by
returns-clause-met_by c = row rel.MetBy thirteen

pub returns-clause-equals : goal.returns-clause-equals
returns-clause-equals c = row rel.Equals thirteen

pub returns-clause-contains : goal.returns-clause-contains
returns-clause-contains c = row rel.Contains thirteen

pub returns-clause-contained_by : goal.returns-clause-contained_by
returns-clause-contained_by c = row rel.ContainedBy thirteen

pub returns-clause-starts : goal.returns-clause-starts
returns-clause-starts c = row rel.Starts thirteen

pub returns-clause-ends : goal.returns-clause-ends
returns-clause-ends c = row rel.Ends thirteen

pub returns-clause-parallels : goal.returns-clause-parallels
returns-clause-parallels c = row rel.Parallels thirteen

pub returns-clause-paralleled_by : goal.returns-clause-paralleled_by
returns-clause-paralleled_by c = row rel.ParalleledBy thirteen

pub returns-clause-starts_during : goal.returns-clause-starts_during
returns-clause-starts_during c = row rel.StartsDuring thirteen

pub returns-clause-contains_start : goal.returns-clause-contains_start
returns-clause-contains_start c = row rel.ContainsStart thirteen

pub returns-clause-ends_during : goal.returns-clause-ends_during
returns-clause-ends_during c = row rel.EndsDuring thirteen

pub returns-clause-contains_end : goal.returns-clause-contains_end
returns-clause-contains_end c = row rel.ContainsEnd thirteen
