use Rattle.std.proofs.Common.{[], length, subst}
use Rattle.std.specs.List.{range_with_len}
use Rattle.temporal_core.specs.Canonical.{IsCycleOf}
use Rattle.temporal_core.proofs.Leaving.{left_is_one}
use Rattle.temporal_core.proofs.Following.{cycle_is_one}
use Rattle.temporal_core.proofs.cycle.canonical_cycle_is_one.Goals as goal

pub returns : goal.returns
returns c = λ edges one other p q.
    let left = left_is_one edges [] (range_with_len 0 (length edges)) q.left p.left q.leaves p.leaves in
    let second = subst (λ list. IsCycleOf edges list other) left (record { same = q.same; cycle = q.cycle; first = q.first }) in
    cycle_is_one edges p.left one other (record { same = p.same; cycle = p.cycle; first = p.first }) second
