use Rattle.std.proofs.Common.{◌≡◌, ◌<◌, length, get_or, pos, sym, ap, ◌∙◌, w32, to_z, of_z, arith}
use Rattle.std.proofs.lemmas.Int.{ints}
use Rattle.std.proofs.lemmas.List.{get_or_default}
use Rattle.domain_core.proofs.Merging.{merged_take, merged_leave, merged_all}
use Rattle.domain_core.proofs.members.keep_common.Goals as goal
use Rattle.domain_core.proofs.members.keep_common.Goals.{then-next-others+then-others-next, else-next-others, else-next-others-via-then-next-others+else-others-next, else-next-others-via-else-next-others}

pub loop-read-preserved : goal.loop-read-preserved
loop-read-preserved c =
    let s = c.skip_below-next.ensures in
    let others = c.args.others.now in
    let next = c.skip_below-next.result in
    let items = c.loop-read.members.items in
    let read = c.loop-read.read in
    let x = c.index-member.result.now in
    let z = to_z w32 (of_z w32 x) in
    let e : z ≡ x = omega (arith, ints) in
    let read_is : z ≡ get_or items read z = e ∙ c.index-member.ensures ∙ ap (get_or items read) (sym e) in
    let within : read < length items = omega (arith, c.loop-read.invariant.sifted.long, c.len-read-end.ensures, c.loop-read-test.true) in
    elim c.if-next-others.branch [
      | then-next-others+then-others-next w ↦
          let same : get_or others next (pos 0) ≡ z = omega (arith, ints, w.if-others-next.true) in
          rw (w.members-is, w.kept-is)
          (merged_take others c.args.members.now.items items c.loop-read.kept read c.loop-read.next next z c.requires.members c.requires.others c.loop-read.invariant
          within read_is s.bound s.below s.next w.if-next-others.true (get_or_default others next z (pos 0) w.if-next-others.true ∙ same))
      | else-next-others w ↦
          let apart : get_or others next z ≡ z → next < length others → ⊥ = λ same there. elim w.else-next-others.branch [
            | else-next-others-via-then-next-others+else-others-next v ↦ v.if-others-next.false (let same_bits : of_z w32 (get_or others next (pos 0)) ≡ of_z w32 x = ap (of_z w32) (get_or_default others next (pos 0) z there ∙ same ∙ e) in same_bits)
            | else-next-others-via-else-next-others v ↦ omega (arith, there, v.if-next-others.false)
          ] in
          rw (w.members-is, w.kept-is)
          (merged_leave others c.args.members.now.items items c.loop-read.kept read c.loop-read.next next z c.requires.members c.requires.others c.loop-read.invariant
          within read_is s.bound s.below s.next apart)
    ]

pub returns : goal.returns
returns c = merged_all _ _ _ _ _ _ c.loop-read.invariant (omega arith)
