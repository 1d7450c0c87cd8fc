-- Each sort of flaw has its own choices.
use Rattle.flaw_core.specs.declared.flaw.Flaw.TheVariants.{Token, Value, Pair, Time}
use Rattle.flaw_core.proofs.Numbering.{same_flaw, found_token, found_value, found_time, found_pair}
use Rattle.flaw_core.proofs.choosing.find.Goals as goal

pub returns-in-Token : goal.returns-in-Token
returns-in-Token g c =
    same_flaw c.args.model.now (g.V.View.decisions c.args.view.now) (g.V.View.state c.args.view.now) c.args.bound c.args.flaw (Token c.in-Token.place) c.args.number c.token_choice.result c.in-Token.is c.requires.first
    (λ first. found_token c.args.model.now (g.V.View.decisions c.args.view.now) (g.V.View.state c.args.view.now) c.args.bound c.in-Token.place c.args.number c.token_choice.result first c.token_choice.ensures)

pub returns-in-Value : goal.returns-in-Value
returns-in-Value g c =
    same_flaw c.args.model.now (g.V.View.decisions c.args.view.now) (g.V.View.state c.args.view.now) c.args.bound c.args.flaw (Value c.in-Value.at) c.args.number c.value_choice.result c.in-Value.is c.requires.first
    (λ first. found_value c.args.model.now (g.V.View.decisions c.args.view.now) (g.V.View.state c.args.view.now) c.args.bound c.in-Value.at c.args.number c.value_choice.result first c.value_choice.ensures)

pub returns-in-Pair : goal.returns-in-Pair
returns-in-Pair g c =
    same_flaw c.args.model.now (g.V.View.decisions c.args.view.now) (g.V.View.state c.args.view.now) c.args.bound c.args.flaw (Pair c.in-Pair.one c.in-Pair.other) c.args.number c.order_choice.result c.in-Pair.is c.requires.first
    (λ first. found_pair c.args.model.now (g.V.View.decisions c.args.view.now) (g.V.View.state c.args.view.now) c.args.bound c.in-Pair.one c.in-Pair.other c.args.number c.order_choice.result first c.order_choice.ensures)

pub returns-in-Time : goal.returns-in-Time
returns-in-Time g c =
    same_flaw c.args.model.now (g.V.View.decisions c.args.view.now) (g.V.View.state c.args.view.now) c.args.bound c.args.flaw (Time c.in-Time.at) c.args.number c.value_choice-in-Time.result c.in-Time.is c.requires.first
    (λ first. found_time c.args.model.now (g.V.View.decisions c.args.view.now) (g.V.View.state c.args.view.now) c.args.bound c.in-Time.at c.args.number c.value_choice-in-Time.result first c.value_choice-in-Time.ensures)
