use Rattle.std.proofs.Common.{◌≡◌, ◌+◌, ◌-◌, ◌<◌, length, refl, ap, ◌∙◌, subst, arith}
use Rattle.std.proofs.lemmas.List.{length-set}
use Rattle.temporal_core.specs.Network.{IsEdge}
use Rattle.temporal_core.specs.Canonical.{edge_at, missing, IsThinned}
use Rattle.temporal_core.proofs.Thinning.{at_place, same_from, back}
use Rattle.temporal_core.proofs.thinned.put_back.Goals as goal

pub loop-place-preserved : goal.loop-place-preserved
loop-place-preserved c =
    let edges = c.args.edges.now in
    let first = c.args.first in
    let place = c.loop-place.place - 1 in
    let old = c.loop-place.thinned in
    let list = old.graph.edges.items in
    let within : place < length edges = omega (arith, c.requires.end, c.loop-place-test.true, c.loop-place.auto.place) in
    let next : c.loop-place.place ≡ place + 1 = omega (arith, c.loop-place-test.true) in
    record {
      count = ap length c.replace.ensures.edges ∙ length-set list place (edge_at edges place) ∙ c.loop-place.invariant.count;
      from = omega (arith, c.loop-place-test.true);
      back = λ points kept before is.
          let now = subst (λ n. IsThinned points edges kept n old) next (c.loop-place.invariant.back points kept before is) in
          let graph = c.replace.ensures.graph points (at_place (IsEdge points) edges place now.joins within) (same_from points edges kept (place + 1) old now place within) now.graph in
          back points edges kept place within old (record { graph = c.replace.new.self; values = old.values }) refl (let after : missing kept < place = omega (arith, c.loop-place-test.true) in after) now graph;
    }

pub returns : goal.returns
returns c = λ points kept before is.
    let last : c.loop-place.place ≡ c.args.first = omega (arith, c.loop-place-test.false, c.loop-place.invariant.from) in
    subst (λ place. IsThinned points c.args.edges.now kept place c.loop-place.thinned) last (c.loop-place.invariant.back points kept before is)
