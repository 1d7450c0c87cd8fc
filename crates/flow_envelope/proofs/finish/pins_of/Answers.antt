use Rattle.std.proofs.Common.{ℕ, ◌+◌, Vec, Global, sym, ap, ◌∙◌, subst}
use Rattle.std.proofs.lemmas.Bool.{both_ways}
use Rattle.flow_envelope.specs.Finish.{ArePins}
use Rattle.flow_envelope.proofs.Gathering.{pins_more, pins_passed}
use Rattle.flow_envelope.proofs.finish.pins_of.Goals as goal
use Rattle.flow_envelope.proofs.finish.pins_of.Goals.{then-is_pinned+in_ok-push, else-is_pinned}

pub loop-place-preserved : goal.loop-place-preserved
loop-place-preserved c =
    let changes = c.args.changes.now in
    let certain = c.args.certain.now in
    let adders = c.args.adders.now in
    let place = c.loop-place.place in
    let before = c.loop-place.pins.items in
    elim c.if-is_pinned.branch [
      | then-is_pinned+in_ok-push w ↦ subst (ArePins changes certain adders (place + 1)) (sym (ap (λ (v : Vec ℕ Global). v.items) w.pins-is ∙ w.in_ok-push.ensures.items))
          (pins_more changes certain adders place before c.loop-place.invariant (c.is_pinned.ensures.0 w.if-is_pinned.true))
      | else-is_pinned w ↦ subst (ArePins changes certain adders (place + 1)) (sym (ap (λ (v : Vec ℕ Global). v.items) w.pins-is))
          (pins_passed changes certain adders place before c.loop-place.invariant (λ pinned. both_ways c.is_pinned.result w.if-is_pinned.false (c.is_pinned.ensures.1 pinned)))
    ]
