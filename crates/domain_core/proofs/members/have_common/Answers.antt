use Rattle.std.proofs.Common.{◌≡◌, ◌<◌, length, get_or, pos, sym, ap, ◌∙◌, w32, to_z, of_z, arith}
use Rattle.std.proofs.lemmas.Int.{ints}
use Rattle.std.proofs.lemmas.List.{get_or_default}
use Rattle.domain_core.proofs.Merging.{apart_step, apart_all}
use Rattle.domain_core.proofs.members.have_common.Goals as goal
use Rattle.domain_core.proofs.members.have_common.Goals.{else-next-others-via-then-next-others+else-others-next, else-next-others-via-else-next-others}

pub loop-member-preserved : goal.loop-member-preserved
loop-member-preserved c =
    let s = c.skip_below-next.ensures in
    let members = c.args.members.now in
    let others = c.args.others.now in
    let next = c.skip_below-next.result in
    let read = c.loop-member.member-index in
    let x = get_or members read (pos 0) in
    let z = to_z w32 (of_z w32 x) in
    let e : z ≡ x = omega (arith, ints) in
    let apart : get_or others next z ≡ z → next < length others → ⊥ = λ same there. elim c.else-next-others.branch [
      | else-next-others-via-then-next-others+else-others-next v ↦ v.if-others-next.false (let same_bits : of_z w32 (get_or others next (pos 0)) ≡ of_z w32 x = ap (of_z w32) (get_or_default others next (pos 0) z there ∙ same ∙ e) in same_bits)
      | else-next-others-via-else-next-others v ↦ omega (arith, there, v.if-next-others.false)
    ] in
    apart_step others members read c.loop-member.next next z c.requires.members c.requires.others c.loop-member.invariant c.loop-member-test.true
    (λ d. get_or_default members read d (pos 0) c.loop-member-test.true ∙ sym e) s.bound s.below s.next apart

pub returns : goal.returns
returns c = (λ none. absurd (cc), λ both. absurd (apart_all _ _ _ _ c.loop-member.invariant (omega arith) both.0 both.1 both.2))
