use Rattle.std.proofs.Common.{◌≡◌, ◌<◌, length, set, refl, sym, ap, ◌∙◌, subst, arith}
use Rattle.std.proofs.lemmas.List.{length-set}
use Rattle.std.proofs.lemmas.List.Elements.{All-weaker}
use Rattle.temporal_core.specs.Network.{IsEdge}
use Rattle.temporal_core.specs.Satisfied.{IsGraph}
use Rattle.temporal_core.specs.Canonical.{edge_at, idle_edge, IsThinned}
use Rattle.temporal_core.proofs.Thinning.{at_place, idle_joins, same_from, left_out}
use Rattle.temporal_core.proofs.thinned.leave_out.Goals as goal

pub loop-place-preserved : goal.loop-place-preserved
loop-place-preserved c =
    let edges = c.args.edges.now in
    let first = c.args.first in
    let place = c.loop-place.place in
    let old = c.loop-place.thinned in
    let list = old.graph.edges.items in
    let idle = idle_edge (edge_at edges place) in
    let within : place < length edges = omega (arith, c.requires.end, c.loop-place-test.true) in
    record {
      count = ap length c.replace.ensures.edges ∙ length-set list place c.idle.result ∙ c.loop-place.invariant.count;
      left = λ points kept before is.
          let now = c.loop-place.invariant.left points kept before is in
          let joins = idle_joins points (edge_at edges place) (at_place (IsEdge points) edges place now.joins within) in
          let graph = c.replace.ensures.graph points (subst (IsEdge points) (sym c.idle.ensures) joins)
          (ap (λ edge. edge.from) c.idle.ensures ∙ same_from points edges kept place old now place within) now.graph in
          left_out points edges kept place within old (record { graph = c.replace.new.self; values = old.values }) refl
          (All-weaker (λ other. other < first) (λ other. other < place) (λ other less. omega arith) kept before) now
          (subst (λ edge. IsGraph points (set list place edge) c.replace.new.self) c.idle.ensures graph);
    }

pub returns : goal.returns
returns c = λ points kept before is.
    let edges = c.args.edges.now in
    let last : c.loop-place.place ≡ c.args.end = omega (arith, c.requires.order, c.loop-place-test.false, c.loop-place.auto.place-end) in
    subst (λ place. IsThinned points edges kept place c.loop-place.thinned) last (c.loop-place.invariant.left points kept before is)
