use Rattle.std.proofs.Common.{take}
use Rattle.std.specs.Prelude.{length, ◌-◌}
use Rattle.db_refusals.specs.Seeing.{seen_state}
use Rattle.db_edges.proofs.Joining.{have_durations, rests_as_state}
use Rattle.db_edges.proofs.Settled.{settled_values}
use Rattle.db_edges.proofs.whole.time_edges.Goals as goal

pub new-view-requires : goal.new-view-requires
new-view-requires c = c.requires.rest.underway.states

pub all_hold-done-requires-clause-tokens : goal.all_hold-done-requires-clause-tokens
all_hold-done-requires-clause-tokens c =
    (rests_as_state c.args.model.now (take (length c.args.decisions.now - 1) c.args.decisions.now) c.args.store.now c.requires.rest).tokens

pub all_hold-done-requires-clause-have : goal.all_hold-done-requires-clause-have
all_hold-done-requires-clause-have c =
    have_durations c.args.model.now (seen_state c.args.store.now)
    (rests_as_state c.args.model.now (take (length c.args.decisions.now - 1) c.args.decisions.now) c.args.store.now c.requires.rest)

pub all_hold-done-requires-clause-values : goal.all_hold-done-requires-clause-values
all_hold-done-requires-clause-values c = settled_values c.args.model.now c.requires.lawful c.args.decisions.now c.requires.settled
