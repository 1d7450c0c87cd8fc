-- The state hasn't the local, or the local has several values, or its line is put behind the others.
use Rattle.std.proofs.Common.{◌≡◌, FitsSigned, w32, subst, rules}
use Rattle.std.proofs.lemmas.Int.{to_z-of_z}
use Rattle.eu_name.specs.declared.name.TokenName.{TokenName}
use Rattle.eu_name.specs.declared.name.VarName.TheVariants as variables
use Rattle.model_core.specs.Views.{IsTokenAt}
use Rattle.plan_defs.specs.declared.plan.Line.TheVariants as lines
use Rattle.plan_states.proofs.Placing.{after_step, local_absent, local_open, local_put}
use Rattle.plan_states.proofs.locals.add_local.Goals as goal

pub returns-in_default : goal.returns-in_default
returns-in_default g c = λ token at. local_absent (g.V.View.model c.args.view.now) (g.V.View.decisions c.args.view.now) (g.V.View.state c.args.view.now) token c.args.rule c.args.number c.args.lines.now.items (λ domain gives. c.in_default.ensures token domain at gives)

pub returns-in_default-single : goal.returns-in_default-single
returns-in_default-single g c = λ same. local_open (g.V.View.model c.args.view.now) (g.V.View.decisions c.args.view.now) (g.V.View.state c.args.view.now) c.requires.settled c.args.place c.args.rule c.args.number c.in-Some.domain.now c.in-Some.ensures c.in_default-single.ensures.none c.requires.kept

pub returns : goal.returns
returns g c = after_step _ _ _ c.push_item.result c.push_item.ensures (λ is.
    let fits : FitsSigned w32 c.in-Some-single.value = search rules in
    let said = subst (λ v. (token : TokenName) × IsTokenAt (g.V.View.state c.args.view.now) c.args.place token × (c.in_ok-line.line ≡ lines.Local (variables.Local token c.args.rule c.args.number) v))
    (to_z-of_z w32 c.in-Some-single.value fits) c.in_ok-line.ensures.line in
    local_put (g.V.View.model c.args.view.now) (g.V.View.decisions c.args.view.now) (g.V.View.state c.args.view.now) c.requires.settled c.args.place c.args.rule c.args.number c.in-Some.domain.now c.in-Some-single.value c.in_ok-line.line c.args.lines.now.items c.push_item.new.list.items
    c.in-Some.ensures c.in-Some-single.ensures.some said is)
