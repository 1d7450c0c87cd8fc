use Rattle.std.proofs.Common.{◌≡◌, ◌+◌, ◌<◌, ◌∷◌, ◌++◌, [], List, Vec, Global, w32, w64, to_z, of_z, length, sym, ap, ◌∙◌, subst, arith}
use Rattle.std.proofs.lemmas.Int.{ints}
use Rattle.std.proofs.lemmas.Bool.{both_ways}
use Rattle.temporal_core.specs.declared.edges.Edge.{Edge}
use Rattle.temporal_core.specs.Schedule.{AreGreatestValues}
use Rattle.flow_envelope.specs.declared.change.Amount.{Amount}
use Rattle.flow_envelope.specs.Sums.{change_at}
use Rattle.flow_envelope.specs.Certain.{AreCertain}
use Rattle.flow_envelope.specs.Pins.{early_edge}
use Rattle.flow_envelope.specs.Pairs.{ArePairs, IsFollower}
use Rattle.flow_envelope.proofs.Matching.{DealtWith, dealt_first, dealt_last, next_follower, next_other}
use Rattle.flow_envelope.proofs.pairs.add_takers.Goals as goal
use Rattle.flow_envelope.proofs.pairs.add_takers.Goals.{then-follows+in_ok-push, else-follows}

pub loop-place-init : goal.loop-place-init
loop-place-init c = λ edges are greatest first.
    dealt_first edges c.args.changes.now (to_z w32 (of_z w32 c.args.at)) c.args.certain.now c.args.greatest.now c.args.adder are c.requires.adder greatest c.args.pairs.now.items first

pub loop-place-preserved : goal.loop-place-preserved
loop-place-preserved c = λ edges are greatest first.
    let changes = c.args.changes.now in
    let certain = c.args.certain.now in
    let values = c.args.greatest.now in
    let adder = c.args.adder in
    let place = c.loop-place.place in
    let list = c.loop-place.pairs.items in
    let before = c.loop-place.invariant edges are greatest first in
    let told : to_z w64 (of_z w64 c.from.result) ≡ to_z w32 (of_z w32 c.args.at) = omega (arith, ints, c.from.ensures) in
    elim c.if-follows.branch [
      | then-follows+in_ok-push w ↦
          let is = subst (λ z. IsFollower changes certain values z place) told (c.follows.ensures.0 w.if-follows.true) in
          subst (ArePairs edges changes (to_z w32 (of_z w32 c.args.at)) certain (DealtWith adder (place + 1))) (sym (ap (λ (v : Vec Amount Global). v.items) w.pairs-is ∙ w.in_ok-push.ensures.items))
          (next_follower edges changes (to_z w32 (of_z w32 c.args.at)) certain values adder are c.requires.adder greatest place list c.requires.points is before)
      | else-follows w ↦
          subst (ArePairs edges changes (to_z w32 (of_z w32 c.args.at)) certain (DealtWith adder (place + 1))) (sym (ap (λ (v : Vec Amount Global). v.items) w.pairs-is))
          (next_other edges changes (to_z w32 (of_z w32 c.args.at)) certain values adder are c.requires.adder greatest place list c.requires.points c.loop-place-test.true
          (λ is. both_ways c.follows.result w.if-follows.false (c.follows.ensures.1 (subst (λ z. IsFollower changes certain values z place) (sym told) is))) before)
    ]

pub returns : goal.returns
returns c =
    let changes = c.args.changes.now in
    let certain = c.args.certain.now in
    let values = c.args.greatest.now in
    let adder = c.args.adder in
    let at : to_z w32 (of_z w32 c.args.at) ≡ c.args.at = omega (arith, ints) in
    subst (λ z. (edges : List Edge) → AreCertain edges changes z certain → AreGreatestValues (length values) (edges ++ early_edge z (change_at changes adder).point ∷ []) values
    → ArePairs edges changes z certain (λ one other. one < adder) c.args.pairs.now.items → ArePairs edges changes z certain (λ one other. one < adder + 1) c.loop-place.pairs.items) at
    (λ edges are greatest first. dealt_last edges changes (to_z w32 (of_z w32 c.args.at)) certain values adder are c.requires.adder greatest c.loop-place.place c.loop-place.pairs.items c.loop-place-test.false
    (c.loop-place.invariant edges are greatest first))
