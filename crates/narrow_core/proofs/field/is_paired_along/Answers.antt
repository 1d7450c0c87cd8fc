use Rattle.std.proofs.Common.{◌≡◌, ◌<ℤ◌, pos, get_or, refl, w32, to_z, of_z, arith, subst}
use Rattle.std.proofs.lemmas.Bool.{both_ways}
use Rattle.std.proofs.lemmas.Int.{ints}
use Rattle.narrow_core.specs.declared.field.FieldEntry.{FieldEntry}
use Rattle.narrow_core.specs.Sides.{side_of, Pairs, IsPaired}
use Rattle.narrow_core.proofs.Ordered.{none_paired, none_of_all, paired_at, none_more}
use Rattle.narrow_core.proofs.field.is_paired_along.Goals as goal

pub loop-place-init : goal.loop-place-init
loop-place-init c = λ k d from before pairs.
    let less = c.first_with-first.ensures.below k d from before in
    let is = pairs.0 in
    omega (arith, ints, less, is)

pub returns-then-value-at : goal.returns-then-value-at
returns-then-value-at c =
    let is : c.args.value ≡ to_z w32 (of_z w32 c.args.value) = omega (arith, ints) in
    let d : FieldEntry = record { object = pos 0; value = pos 0 } in
    let more : to_z w32 (of_z w32 c.args.value) <ℤ side_of (get_or c.args.entries.now c.loop-place.place d) c.args.side = omega (arith, ints, c.at.ensures) in (
      λ never. absurd (cc),
      λ some. absurd (none_paired c.args.entries.now c.args.side c.requires c.args.other.now _ c.loop-place.place d (omega arith) c.loop-place.invariant more
          (subst (IsPaired c.args.entries.now c.args.side c.args.other.now) is some)),
    )

pub returns-then-pairs : goal.returns-then-pairs
returns-then-pairs c =
    let is : to_z w32 (of_z w32 c.args.value) ≡ c.args.value = omega (arith, ints) in
    let paired = subst (Pairs _ c.args.side c.args.other.now) is (c.pairs.ensures.0 c.if-pairs.true) in
    (λ yes. paired_at c.args.entries.now c.args.side c.args.other.now c.args.value c.loop-place.place _ (omega arith) paired, λ some. refl)

pub loop-place-preserved : goal.loop-place-preserved
loop-place-preserved c =
    none_more c.args.entries.now c.args.side c.args.other.now _ c.loop-place.place _ (omega arith) c.loop-place.invariant
    (λ pairs. both_ways c.pairs.result c.if-pairs.false (c.pairs.ensures.1 pairs))

pub returns : goal.returns
returns c =
    let is : c.args.value ≡ to_z w32 (of_z w32 c.args.value) = omega (arith, ints) in (
      λ never. absurd (cc),
      λ some. absurd (none_of_all c.args.entries.now c.args.side c.requires c.args.other.now _ c.loop-place.place (omega arith) c.loop-place.invariant
          (subst (IsPaired c.args.entries.now c.args.side c.args.other.now) is some)),
    )
