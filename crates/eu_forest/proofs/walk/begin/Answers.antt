use Rattle.std.proofs.Common.{None, Some, ◌≡◌, ◌∙◌, ap, length, take, arith, subst, ℕ}
use Rattle.eu_forest.specs.Walks.{AreBegun}
use Rattle.eu_forest.proofs.Beginning.{begun_root_as, begun_other_as, begun_all, begun_none}
use Rattle.eu_forest.proofs.Lists.{read_at}
use Rattle.eu_forest.proofs.walk.begin.Goals as goal
use Rattle.eu_forest.proofs.walk.begin.Goals.{in-None+in_ok-push-in-None+in_ok-push-in-None-2, in-Some+in_ok-push-in-Some}

pub loop-number-init : goal.loop-number-init
loop-number-init c = rw (c.requires.marks, c.requires.order) (begun_none c.args.parents.now)

pub loop-number-preserved : goal.loop-number-preserved
loop-number-preserved c = elim c.match-parent.branch [
  | in-None+in_ok-push-in-None+in_ok-push-in-None-2 w ↦
      begun_root_as c.args.parents.now c.loop-number.number c.loop-number.marks.items _ c.loop-number.order.items _
      (read_at c.args.parents.now c.loop-number.number None None c.loop-number-test.true w.in-None.is)
      (ap (λ v. v.items) w.marks-is ∙ w.in_ok-push-in-None-2.ensures.items)
      (ap (λ v. v.items) w.order-is ∙ w.in_ok-push-in-None.ensures.items) c.loop-number.invariant
  | in-Some+in_ok-push-in-Some w ↦
      begun_other_as c.args.parents.now c.loop-number.number w.in-Some.field-0 c.loop-number.marks.items _ c.loop-number.order.items _
      (read_at c.args.parents.now c.loop-number.number None (Some w.in-Some.field-0) c.loop-number-test.true w.in-Some.is)
      (ap (λ v. v.items) w.marks-is ∙ w.in_ok-push-in-Some.ensures.items)
      (ap (λ v. v.items) w.order-is) c.loop-number.invariant
]

pub returns : goal.returns
returns c =
    let here : c.loop-number.number ≡ length c.args.parents.now = omega (arith, c.loop-number.auto.number-end, c.loop-number-test.false) in
    let P : ℕ → Type 0 = λ n. AreBegun (take n c.args.parents.now) c.loop-number.marks.items c.loop-number.order.items in
    begun_all c.args.parents.now c.loop-number.marks.items c.loop-number.order.items (subst P here c.loop-number.invariant)
