-- The next value is put behind the others.
use Rattle.std.proofs.Common.{◌≡◌, ◌∷◌, [], ◌++◌, FitsSigned, w32, subst, rules}
use Rattle.std.proofs.lemmas.Int.{to_z-of_z}
use Rattle.plan_defs.proofs.Telling.{first_more}
use Rattle.plan_states.proofs.parts.part_values.Goals as goal

pub loop-number-preserved : goal.loop-number-preserved
loop-number-preserved g c =
    let fits : FitsSigned w32 c.in-Some.value = search rules in
    let is = subst (λ v. c.push_item.new.list.items ≡ c.loop-number.values.items ++ v ∷ []) (to_z-of_z w32 c.in-Some.value fits) c.in_ok-push_item.ensures in
    first_more (g.V.View.state c.args.view.now) c.args.place c.loop-number.number c.loop-number.values.items c.push_item.new.list.items c.part_at.result c.in-Some.value c.loop-number.invariant c.part_at.ensures is c.in-Some.ensures
