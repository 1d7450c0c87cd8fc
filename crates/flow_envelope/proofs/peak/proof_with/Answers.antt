use Rattle.std.proofs.Common.{ℤ, List, length, map, w32, to_z, of_z, sym, ap, ◌∙◌, subst}
use Rattle.std.proofs.lemmas.List.{length-map}
use Rattle.flow_envelope.specs.Flow.{IsFlow, IsMoved}
use Rattle.flow_envelope.specs.Filling.{to_give, to_take}
use Rattle.flow_envelope.proofs.Ending.{begun_flow}
use Rattle.flow_envelope.proofs.peak.proof_with.Goals as goal

pub fill-requires : goal.fill-requires
fill-requires c =
    let changes = c.args.changes.now in
    let flow = c.in_ok-flow.flow in
    let begun = c.in_ok-flow.ensures in
    subst (λ (list : List ℤ). IsFlow flow.pairs.items list flow.room.items) (sym begun.more)
    (subst (λ (list : List ℤ). IsFlow flow.pairs.items (map to_give changes) list) (sym begun.room)
    (begun_flow c.args.edges.now.points c.args.edges.now.edges changes (to_z w32 (of_z w32 c.args.at)) c.args.certain.now c.requires.few c.requires.changes flow.pairs.items begun.are_pairs))

pub ended-requires-clause-ended : goal.ended-requires-clause-ended
ended-requires-clause-ended c =
    let changes = c.args.changes.now in
    let flow = c.in_ok-flow.flow in
    let last = c.fill.new.flow in
    let begun = c.in_ok-flow.ensures in
    let filled = c.in_ok-labels.ensures in
    record {
      first = flow.pairs.items;
      are_pairs = begun.are_pairs;
      is_flow = filled.flow;
      moved = subst (λ (list : List ℤ). IsMoved flow.pairs.items list (map to_take changes) last.pairs.items last.more.items last.room.items) begun.more
          (subst (λ (list : List ℤ). IsMoved flow.pairs.items flow.more.items list last.pairs.items last.more.items last.room.items) begun.room filled.moved);
      closed = filled.closed;
      count = filled.count ∙ (filled.moved.more_count ∙ (ap (λ (list : List ℤ). length list) begun.more ∙ length-map changes to_give));
    }
