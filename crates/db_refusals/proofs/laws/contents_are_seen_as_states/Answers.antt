use Rattle.db_refusals.proofs.Seen.{put_in_order, have_states, one_state}
use Rattle.db_refusals.proofs.laws.contents_are_seen_as_states.Goals as goal

pub returns-clause-order : goal.returns-clause-order
returns-clause-order c = put_in_order

pub returns-clause-states : goal.returns-clause-states
returns-clause-states c = have_states

pub returns-clause-one : goal.returns-clause-one
returns-clause-one c = one_state
