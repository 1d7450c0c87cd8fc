use Rattle.std.proofs.Common.{◌+◌, ◌≤◌, get_or, take, sym, subst, arith}
use Rattle.std.specs.Prelude.{All, Contains}
use Rattle.std.proofs.lemmas.List.{take_all}
use Rattle.std.proofs.lemmas.List.Elements.{All-more, All-weaker, Contains-get_or}
use Rattle.temporal_core.specs.Canonical.{edge_at}
use Rattle.temporal_core.proofs.canonical.least_place.Goals as goal
use Rattle.temporal_core.proofs.canonical.least_place.Goals.{then-edges-place, else-edges-place}

pub loop-place-preserved : goal.loop-place-preserved
loop-place-preserved c =
    let edges = c.args.edges.now in
    let places = c.args.places.now in
    let i = c.loop-place.place-index in
    let place = get_or places i 0 in
    let old = c.loop-place.least in
    let inside = c.loop-place-test.true in
    elim c.if-edges-place.branch [
      | then-edges-place w ↦ record {
        member = subst (Contains places) (sym w.least-is) (Contains-get_or places i 0 inside);
        least = subst (λ least. All (λ other. (edge_at edges least).from ≤ (edge_at edges other).from) (take (i + 1) places)) (sym w.least-is)
            (All-more (λ other. (edge_at edges place).from ≤ (edge_at edges other).from) places i 0 inside
            (All-weaker (λ other. (edge_at edges old).from ≤ (edge_at edges other).from) (λ other. (edge_at edges place).from ≤ (edge_at edges other).from) (λ other le. let less = w.if-edges-place.true in omega arith) (take i places) c.loop-place.invariant.least)
            (omega arith));
      }
      | else-edges-place w ↦ record {
        member = subst (Contains places) (sym w.least-is) c.loop-place.invariant.member;
        least = subst (λ least. All (λ other. (edge_at edges least).from ≤ (edge_at edges other).from) (take (i + 1) places)) (sym w.least-is)
            (All-more (λ other. (edge_at edges old).from ≤ (edge_at edges other).from) places i 0 inside c.loop-place.invariant.least w.if-edges-place.false);
      }
    ]

pub returns-clause-least : goal.returns-clause-least
returns-clause-least c =
    subst (All (λ other. (edge_at c.args.edges.now c.loop-place.least).from ≤ (edge_at c.args.edges.now other).from)) (take_all c.loop-place.place-index c.args.places.now c.loop-place-test.false) c.loop-place.invariant.least
