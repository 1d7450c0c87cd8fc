use Rattle.std.proofs.Common.{◌≢◌, ◌+◌, pos, ◌↔◌, IsTrue, get_or, subst}
use Rattle.std.specs.Prelude.{All}
use Rattle.std.proofs.lemmas.List.{take_rest}
use Rattle.std.proofs.lemmas.Bool.{both_ways, false≢true}
use Rattle.temporal_core.specs.declared.edges.Edge.{Edge}
use Rattle.temporal_core.specs.Cycle.{edges_at, IsSimple}
use Rattle.temporal_core.proofs.Cycles.{simple_more, simple_no_more}
use Rattle.temporal_core.proofs.cycle.is_simple.Goals as goal

pub returns-then-not-none_from : goal.returns-then-not-none_from
returns-then-not-none_from c =
    let edges = c.args.edges.now in
    let places = c.args.places.now in
    let k = c.loop-k.k in
    let none : Edge = record { from = 0; to = 0; gap = pos 0 } in
    let point = (get_or edges (get_or places k 0) none).from in
    let tells = subst (λ rest. IsTrue c.none_from.result ↔ All (λ (other : Edge). other.from ≢ point) (edges_at edges rest)) (take_rest places (k + 1)) c.none_from.ensures in (
      λ never. absurd (false≢true never),
      λ simple. absurd (simple_no_more edges places c.requires k none c.loop-k-test.true (IsSimple (edges_at edges places)) c.loop-k.invariant (λ all. both_ways c.none_from.result c.if-not-none_from.true (tells.1 all)) simple),
    )

pub loop-k-preserved : goal.loop-k-preserved
loop-k-preserved c =
    let edges = c.args.edges.now in
    let places = c.args.places.now in
    let k = c.loop-k.k in
    let none : Edge = record { from = 0; to = 0; gap = pos 0 } in
    let point = (get_or edges (get_or places k 0) none).from in
    let tells = subst (λ rest. IsTrue c.none_from.result ↔ All (λ (other : Edge). other.from ≢ point) (edges_at edges rest)) (take_rest places (k + 1)) c.none_from.ensures in
    simple_more edges places c.requires k none c.loop-k-test.true (IsSimple (edges_at edges places)) c.loop-k.invariant (tells.0 c.if-not-none_from.false)
