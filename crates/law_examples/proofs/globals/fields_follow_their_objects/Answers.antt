use Rattle.law_examples.proofs.Objects.{both_closed, three_is_in_no_field, second_has_no_one, first_closed, first_has_no_two}
use Rattle.law_examples.proofs.globals.fields_follow_their_objects.Goals as goal

pub returns-clause-both : goal.returns-clause-both
returns-clause-both c = both_closed

pub returns-clause-beyond : goal.returns-clause-beyond
returns-clause-beyond c = three_is_in_no_field

pub returns-clause-unreached : goal.returns-clause-unreached
returns-clause-unreached c = second_has_no_one

pub returns-clause-first : goal.returns-clause-first
returns-clause-first c = first_closed

pub returns-clause-other : goal.returns-clause-other
returns-clause-other c = first_has_no_two
