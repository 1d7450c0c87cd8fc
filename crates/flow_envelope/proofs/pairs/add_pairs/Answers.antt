use Rattle.std.proofs.Common.{◌≡◌, ◌+◌, ◌<◌, [], ◌∷◌, ◌++◌, ℤ, ℕ, List, Option, length, map, w32, to_z, of_z, sym, ap, ◌∙◌, subst, arith}
use Rattle.std.proofs.lemmas.Int.{ints}
use Rattle.std.proofs.lemmas.Result.{on_ok_weaker}
use Rattle.temporal_core.specs.declared.edges.Edge.{Edge}
use Rattle.temporal_core.specs.Schedule.{AreGreatestValues}
use Rattle.flow_envelope.specs.Sums.{change_at}
use Rattle.flow_envelope.specs.Certain.{AreCertain}
use Rattle.flow_envelope.specs.Pairs.{ArePairs}
use Rattle.flow_envelope.specs.Pins.{early_edge, HasSchedule}
use Rattle.flow_envelope.proofs.Matching.{adder_early}
use Rattle.flow_envelope.proofs.pairs.add_pairs.Goals as goal

pub bounds_early-requires-clause-schedule : goal.bounds_early-requires-clause-schedule
bounds_early-requires-clause-schedule c =
    let edges = c.args.edges.now.edges in
    let at : to_z w32 (of_z w32 c.args.at) ≡ c.args.at = omega (arith, ints) in
    subst (λ (list : List ℕ). HasSchedule (edges ++ map (early_edge (to_z w32 (of_z w32 c.args.at))) list)) (sym c.as_slice.ensures)
    (subst (λ z. HasSchedule (edges ++ early_edge z (change_at c.args.changes.now c.args.adder).point ∷ [])) (sym at)
    (adder_early edges c.args.changes.now c.args.at c.args.certain.now c.args.adder c.requires.certain (c.is_adder.ensures.0 c.if-not-is_adder.false)))

pub returns : goal.returns
returns c =
    let points = c.args.edges.now.points in
    let edges = c.args.edges.now.edges in
    let changes = c.args.changes.now in
    let certain = c.args.certain.now in
    let adder = c.args.adder in
    let greatest = c.as_slice-2.result.now in
    let at : to_z w32 (of_z w32 c.args.at) ≡ c.args.at = omega (arith, ints) in
    let bounds = c.in_ok-ends.ensures.bounds in
    let count : length greatest ≡ points = ap (λ (list : List (Option ℤ)). length list) c.as_slice-2.ensures ∙ bounds.greatest.count in
    let one_more = subst (λ (list : List ℕ). AreGreatestValues points (edges ++ map (early_edge (to_z w32 (of_z w32 c.args.at))) list) c.in_ok-ends.ends.hi) c.as_slice.ensures bounds.greatest in
    let are_greatest = subst (λ n. AreGreatestValues n (edges ++ early_edge (to_z w32 (of_z w32 c.args.at)) (change_at changes adder).point ∷ []) greatest) (sym count)
    (subst (AreGreatestValues points (edges ++ early_edge (to_z w32 (of_z w32 c.args.at)) (change_at changes adder).point ∷ [])) (sym c.as_slice-2.ensures) one_more) in
    on_ok_weaker {P = (list : List Edge) → AreCertain list changes (to_z w32 (of_z w32 c.args.at)) certain
    → AreGreatestValues (length greatest) (list ++ early_edge (to_z w32 (of_z w32 c.args.at)) (change_at changes adder).point ∷ []) greatest
    → ArePairs list changes (to_z w32 (of_z w32 c.args.at)) certain (λ one other. one < adder) c.args.pairs.now.items
    → ArePairs list changes (to_z w32 (of_z w32 c.args.at)) certain (λ one other. one < adder + 1) c.add_takers.new.pairs.items}
    {Q = ArePairs edges changes c.args.at certain (λ one other. one < adder + 1) c.add_takers.new.pairs.items} c.add_takers.result
    (λ says. subst (λ z. ArePairs edges changes z certain (λ one other. one < adder + 1) c.add_takers.new.pairs.items) at
    (says edges (subst (λ z. AreCertain edges changes z certain) (sym at) c.requires.certain) are_greatest
    (subst (λ z. ArePairs edges changes z certain (λ one other. one < adder) c.args.pairs.now.items) (sym at) c.requires.pairs)))
    c.add_takers.ensures
