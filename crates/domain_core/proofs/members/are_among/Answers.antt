use Rattle.std.proofs.Common.{◌≡◌, ◌<◌, length, get_or, pos, sym, ap, ◌∙◌, w32, to_z, of_z, arith}
use Rattle.std.proofs.lemmas.Int.{ints}
use Rattle.std.proofs.lemmas.List.{get_or_default}
use Rattle.domain_core.proofs.Merging.{among_step, among_all, not_all_among}
use Rattle.domain_core.proofs.members.are_among.Goals as goal

pub returns-then-next-others : goal.returns-then-next-others
returns-then-next-others c =
    let s = c.skip_below-next.ensures in
    let members = c.args.members.now in
    let others = c.args.others.now in
    let next = c.skip_below-next.result in
    let read = c.loop-member.member-index in
    let x = get_or members read (pos 0) in
    let z = to_z w32 (of_z w32 x) in
    let e : z ≡ x = omega (arith, ints) in (
      λ none. absurd (cc),
      λ all. absurd (not_all_among others members read c.loop-member.next next z c.requires.members c.requires.others c.loop-member.invariant c.loop-member-test.true
          (λ d. get_or_default members read d (pos 0) c.loop-member-test.true ∙ sym e) s.below s.next
          (λ same there. omega (arith, there, c.if-next-others.true)) all),
    )

pub returns-then-others-next : goal.returns-then-others-next
returns-then-others-next c =
    let s = c.skip_below-next.ensures in
    let members = c.args.members.now in
    let others = c.args.others.now in
    let next = c.skip_below-next.result in
    let read = c.loop-member.member-index in
    let x = get_or members read (pos 0) in
    let z = to_z w32 (of_z w32 x) in
    let e : z ≡ x = omega (arith, ints) in (
      λ none. absurd (cc),
      λ all. absurd (not_all_among others members read c.loop-member.next next z c.requires.members c.requires.others c.loop-member.invariant c.loop-member-test.true
          (λ d. get_or_default members read d (pos 0) c.loop-member-test.true ∙ sym e) s.below s.next
          (λ same there. c.if-others-next.true (let same_bits : of_z w32 (get_or others next (pos 0)) ≡ of_z w32 x = ap (of_z w32) (get_or_default others next (pos 0) z there ∙ same ∙ e) in same_bits)) all),
    )

pub loop-member-preserved : goal.loop-member-preserved
loop-member-preserved c =
    let s = c.skip_below-next.ensures in
    let members = c.args.members.now in
    let others = c.args.others.now in
    let next = c.skip_below-next.result in
    let read = c.loop-member.member-index in
    let x = get_or members read (pos 0) in
    let y = get_or others next (pos 0) in
    let z = to_z w32 (of_z w32 x) in
    let e : z ≡ x = omega (arith, ints) in
    let f : to_z w32 (of_z w32 y) ≡ y = omega (arith, ints) in
    let there : next < length others = omega (arith, c.if-next-others.false) in
    let same : y ≡ z = sym f ∙ ap (to_z w32) c.if-others-next.false in
    among_step others members read c.loop-member.next next z c.requires.members c.requires.others c.loop-member.invariant c.loop-member-test.true
    (λ d. get_or_default members read d (pos 0) c.loop-member-test.true ∙ sym e) s.bound s.below s.next there
    (get_or_default others next z (pos 0) there ∙ same)

pub returns : goal.returns
returns c = (λ done. among_all _ _ _ _ c.loop-member.invariant (omega arith), λ all. cc)
