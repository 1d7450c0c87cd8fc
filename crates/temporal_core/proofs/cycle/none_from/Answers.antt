use Rattle.std.proofs.Common.{◌≢◌, pos}
use Rattle.std.specs.Prelude.{All}
use Rattle.std.proofs.lemmas.Bool.{false≢true}
use Rattle.temporal_core.specs.declared.edges.Edge.{Edge}
use Rattle.temporal_core.specs.Cycle.{edges_at}
use Rattle.temporal_core.proofs.Cycles.{all_more, all_no_more}
use Rattle.temporal_core.proofs.cycle.none_from.Goals as goal

pub returns-then-edges-place : goal.returns-then-edges-place
returns-then-edges-place c =
    let none : Edge = record { from = 0; to = 0; gap = pos 0 } in
    let P = λ (other : Edge). other.from ≢ c.args.point in (
      λ never. absurd (false≢true never),
      λ all. absurd (all_no_more c.args.edges.now c.args.places.now c.requires c.loop-place.place-index none c.loop-place-test.true P (All P (edges_at c.args.edges.now c.args.places.now)) c.loop-place.invariant (λ apart. apart c.if-edges-place.true) all),
    )

pub loop-place-preserved : goal.loop-place-preserved
loop-place-preserved c =
    let none : Edge = record { from = 0; to = 0; gap = pos 0 } in
    let P = λ (other : Edge). other.from ≢ c.args.point in
    all_more c.args.edges.now c.args.places.now c.requires c.loop-place.place-index none c.loop-place-test.true P (All P (edges_at c.args.edges.now c.args.places.now)) c.loop-place.invariant c.if-edges-place.false
