use Rattle.std.proofs.Common.{◌≡◌, ℤ, List, Option, length, w64, to_z, of_z, sym, ap, ◌∙◌, subst, arith}
use Rattle.std.specs.Prelude.{All}
use Rattle.std.proofs.lemmas.Int.{ints}
use Rattle.std.proofs.lemmas.Result.{IfOk-weaker}
use Rattle.temporal_core.specs.declared.edges.Edge.{Edge}
use Rattle.temporal_core.specs.Network.{TimeNetwork}
use Rattle.temporal_core.specs.TimeBounds.{AreBounds}
use Rattle.temporal_core.specs.Schedule.{AreLeastValues, AreGreatestValues}
use Rattle.flow_envelope.specs.Peak.{IsChange}
use Rattle.flow_envelope.specs.Certain.{AreCertain}
use Rattle.flow_envelope.proofs.certain.certainties.Goals as goal

pub all_certain-requires-clause-count : goal.all_certain-requires-clause-count
all_certain-requires-clause-count c = ap (λ (list : List (Option ℤ)). length list) c.as_slice.ensures ∙ (c.requires.count ∙ sym (ap (λ (list : List (Option ℤ)). length list) c.as_slice-2.ensures))

pub all_certain-requires-clause-changes : goal.all_certain-requires-clause-changes
all_certain-requires-clause-changes c = subst (λ (list : List (Option ℤ)). All (IsChange (length list)) c.args.changes.now) (sym c.as_slice.ensures) c.requires.changes

pub returns : goal.returns
returns c =
    let changes = c.args.changes.now in
    let ends = c.args.ends.now in
    let lo = c.as_slice.result.now in
    let hi = c.as_slice-2.result.now in
    let at : to_z w64 (of_z w64 c.from.result) ≡ c.args.at = omega (arith, ints, c.from.ensures) in
    IfOk-weaker c.all_certain.result
    (λ certain. (edges : List Edge) → AreLeastValues (length lo) edges lo → AreGreatestValues (length lo) edges hi → AreCertain edges changes (to_z w64 (of_z w64 c.from.result)) certain.items)
    (λ certain. (network : TimeNetwork) → AreBounds network ends → AreCertain network.edges changes c.args.at certain.items)
    (λ certain is network bounds.
    let count : length lo ≡ network.points = ap (λ (list : List (Option ℤ)). length list) c.as_slice.ensures ∙ bounds.least.count in
    subst (λ z. AreCertain network.edges changes z certain.items) at
    (is network.edges
    (subst (λ n. AreLeastValues n network.edges lo) (sym count) (subst (AreLeastValues network.points network.edges) (sym c.as_slice.ensures) bounds.least))
    (subst (λ n. AreGreatestValues n network.edges hi) (sym count) (subst (AreGreatestValues network.points network.edges) (sym c.as_slice-2.ensures) bounds.greatest))))
    c.all_certain.ensures
