use Rattle.std.proofs.Common.{pos, length, sym, ◌∙◌, arith}
use Rattle.std.proofs.lemmas.Bool.{false≢true, eqb-false}
use Rattle.temporal_core.specs.declared.edges.Edge.{Edge}
use Rattle.temporal_core.specs.Cycle.{edges_at, LeadsBack}
use Rattle.temporal_core.proofs.Cycles.{closed_at, leads_more, leads_no_more}
use Rattle.temporal_core.proofs.cycle.is_closed.Goals as goal

pub loop-place-init : goal.loop-place-init
loop-place-init c =
    let none : Edge = record { from = 0; to = 0; gap = pos 0 } in
    let some = eqb-false (length c.args.places.now) 0 (sym c.is_empty.ensures ∙ c.if-is_empty.false) in
    closed_at c.args.edges.now c.args.places.now none c.requires (omega (arith, some))

pub returns-then-edge-at : goal.returns-then-edge-at
returns-then-edge-at c =
    let none : Edge = record { from = 0; to = 0; gap = pos 0 } in (
      λ never. absurd (false≢true never),
      λ closed. absurd (leads_no_more c.args.edges.now c.args.places.now c.requires c.loop-place.place-index none c.loop-place-test.true c.loop-place.at _ (LeadsBack (edges_at c.args.edges.now c.args.places.now)) c.loop-place.invariant c.if-edge-at.true closed),
    )

pub loop-place-preserved : goal.loop-place-preserved
loop-place-preserved c =
    let none : Edge = record { from = 0; to = 0; gap = pos 0 } in
    leads_more c.args.edges.now c.args.places.now c.requires c.loop-place.place-index none c.loop-place-test.true c.loop-place.at _ (LeadsBack (edges_at c.args.edges.now c.args.places.now)) c.loop-place.invariant c.if-edge-at.false
