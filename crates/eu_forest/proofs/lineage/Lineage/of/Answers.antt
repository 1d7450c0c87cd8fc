use Rattle.std.proofs.Common.{◌≡◌, ◌+◌, arith, subst, sym, ℕ, List, length, drop}
use Rattle.eu_forest.specs.declared.walk.Mark.{Mark}
use Rattle.eu_forest.specs.Walks.{IsKnownFrom}
use Rattle.eu_forest.proofs.Known.{AreKnownBelow, known_none, known_more, known_all}
use Rattle.eu_forest.proofs.Lists.{take_front}
use Rattle.eu_forest.proofs.lineage.Lineage.of.Goals as goal

pub loop-number-init : goal.loop-number-init
loop-number-init c = known_none c.args.parents.now c.begin.new.marks.items c.begin.new.order.items c.in_ok-begin.ensures

pub loop-number-preserved : goal.loop-number-preserved
loop-number-preserved c =
    let P : List Mark → Type 0 = λ m. AreKnownBelow c.args.parents.now m c.walk.new.order.items (c.loop-number.number + 1) in
    let e = take_front c.walk.new.marks (drop (length c.walk.new.marks) c.loop-number.marks.items) c.loop-number.marks.len
    (omega (arith, c.loop-number.marks.ok.0, c.loop-number.invariant.walkable.marks_are.count, c.in_ok-walk.ensures.told.marks_are.count)) in
    subst P (sym e)
    (known_more c.args.parents.now _ c.walk.new.marks c.loop-number.order.items c.walk.new.order.items c.loop-number.number c.loop-number.invariant
    c.in_ok-walk.ensures.told
    (let Q : List Mark → Type 0 = λ m. IsKnownFrom m c.walk.new.marks c.loop-number.number in subst Q c.as_mut_slice.ensures.value c.in_ok-walk.ensures.known))

pub returns : goal.returns
returns c =
    let here : c.loop-number.number ≡ length c.args.parents.now = omega (arith, c.loop-number.auto.number-end, c.loop-number-test.false) in
    let P : ℕ → Type 0 = λ n. AreKnownBelow c.args.parents.now c.loop-number.marks.items c.loop-number.order.items n in
    known_all c.args.parents.now c.loop-number.marks.items c.loop-number.order.items (subst P here c.loop-number.invariant)
