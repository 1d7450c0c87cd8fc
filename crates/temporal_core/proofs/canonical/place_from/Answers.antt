use Rattle.std.proofs.Common.{◌≢◌, subst}
use Rattle.std.specs.Prelude.{All}
use Rattle.std.proofs.lemmas.List.{take_all}
use Rattle.std.proofs.lemmas.List.Elements.{All-more, All-contains}
use Rattle.temporal_core.specs.Canonical.{edge_at}
use Rattle.temporal_core.proofs.canonical.place_from.Goals as goal

pub loop-place-preserved : goal.loop-place-preserved
loop-place-preserved c =
    All-more (λ place. (edge_at c.args.edges.now place).from ≢ c.args.point) c.args.places.now c.loop-place.place-index 0 c.loop-place-test.true c.loop-place.invariant c.if-edges-place.false

pub unreachable-requires : goal.unreachable-requires
unreachable-requires c =
    let found = c.requires.found in
    let none = subst (All (λ place. (edge_at c.args.edges.now place).from ≢ c.args.point)) (take_all c.loop-place.place-index c.args.places.now c.loop-place-test.false) c.loop-place.invariant in
    All-contains (λ place. (edge_at c.args.edges.now place).from ≢ c.args.point) c.args.places.now found.0 none found.1 found.2
