-- A global without a value is a flaw; else its value is the next one.
use Rattle.std.proofs.Common.{◌≡◌, ◌<◌, ◌∷◌, [], ◌++◌, FitsSigned, w32, ap, subst, rules, arith, length}
use Rattle.std.proofs.lemmas.Int.{to_z-of_z}
use Rattle.model_core.specs.declared.model.Model.{Model}
use Rattle.plan_states.proofs.Placing.{global_open}
use Rattle.plan_defs.proofs.Telling.{globals_more}
use Rattle.plan_states.proofs.making.global_values.Goals as goal

pub returns-in_default : goal.returns-in_default
returns-in_default g c = λ same.
    let within : c.loop-number.number < length (g.V.View.model c.args.view.now).problem.globals =
    omega (arith, c.loop-number-test.true, c.len-number-end.ensures, ap (λ (m : Model). length m.problem.globals) c.requires.model) in
    global_open (g.V.View.model c.args.view.now) (g.V.View.decisions c.args.view.now) (g.V.View.state c.args.view.now) c.requires.settled c.loop-number.number within c.in_default.ensures

pub loop-number-preserved : goal.loop-number-preserved
loop-number-preserved g c =
    let fits : FitsSigned w32 c.in-Some.value = search rules in
    let is = subst (λ v. c.push_item.new.list.items ≡ c.loop-number.values.items ++ v ∷ []) (to_z-of_z w32 c.in-Some.value fits) c.in_ok-push_item.ensures in
    globals_more (g.V.View.state c.args.view.now) c.loop-number.number c.loop-number.values.items c.push_item.new.list.items c.in-Some.value c.loop-number.invariant is c.in-Some.ensures

pub returns : goal.returns
returns g c = record {
  long = omega (arith, c.loop-number.invariant.long, c.loop-number-test.false, c.loop-number.auto.number-end, c.len-number-end.ensures, ap (λ (m : Model). length m.problem.globals) c.requires.model);
  are = c.loop-number.invariant.are;
}
