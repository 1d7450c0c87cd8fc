use Rattle.std.proofs.Common.{◌≡◌, map, sym, ap, ◌∙◌, subst}
use Rattle.std.specs.Prelude.{All}
use Rattle.std.proofs.lemmas.Result.{IfOk-weaker}
use Rattle.temporal_core.specs.Network.{IsEdge}
use Rattle.temporal_core.specs.Schedule.{AreLeastValues, AreGreatestValues}
use Rattle.temporal_core.specs.Satisfied.{HasPositiveCycle}
use Rattle.temporal_core.specs.Bounds.{reversed_edge, negative_of}
use Rattle.temporal_core.proofs.Turning as turning
use Rattle.temporal_core.proofs.bounds.greatest_values.Goals as goal

pub least_of-requires-clause-edges : goal.least_of-requires-clause-edges
least_of-requires-clause-edges c =
    subst (All (IsEdge c.args.points)) (sym (c.deref.ensures.value ∙ c.in_ok-turned.ensures)) (turning.reversed_joins c.args.points c.args.edges.now c.requires.edges)

pub least_of-requires-clause-schedule : goal.least_of-requires-clause-schedule
least_of-requires-clause-schedule c = λ found.
    turning.no_cycle_turned c.args.edges.now c.requires.schedule.0 c.requires.schedule.1 (subst HasPositiveCycle (c.deref.ensures.value ∙ c.in_ok-turned.ensures) found)

pub returns : goal.returns
returns c =
    let edges = c.args.edges.now in
    let turned : c.deref.result.now ≡ map reversed_edge edges = c.deref.ensures.value ∙ c.in_ok-turned.ensures in
    let least = subst (λ list. AreLeastValues c.args.points list c.in_ok-least.least.items) turned c.in_ok-least.ensures.values in
    IfOk-weaker c.negatives.result (λ greatest. greatest.items ≡ map negative_of c.deref-2.result.now) (λ greatest. AreGreatestValues c.args.points edges greatest.items)
    (λ greatest is. subst (AreGreatestValues c.args.points edges) (sym (is ∙ ap (map negative_of) c.deref-2.ensures.value)) (turning.greatest_values c.args.points edges c.in_ok-least.least.items least))
    c.negatives.ensures
