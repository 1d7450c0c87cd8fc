-- The targets come first, and then the token's own choices.
use Rattle.flaw_core.proofs.Numbering.{token_at_target, token_past_targets, pred_here}
use Rattle.flaw_core.proofs.Sorting.{none_there}
use Rattle.flaw_core.proofs.choosing.token_choice.Goals as goal

pub returns-in_default : goal.returns-in_default
returns-in_default g c = λ token choices here are. absurd (none_there (g.V.View.model c.args.view.now) c.args.model.now (g.V.View.state c.args.view.now) c.requires.model c.requires.least.least.closed.consistent.is_state c.args.place c.in_default.ensures token here)

pub returns-in-At : goal.returns-in-At
returns-in-At g c = λ token choices here are.
    token_at_target c.args.model.now (g.V.View.decisions c.args.view.now) (g.V.View.state c.args.view.now) c.args.bound c.args.place token here c.in-Some.pred c.args.number c.in-At.target choices (pred_here c.args.model.now (g.V.View.state c.args.view.now) c.args.place token c.in-Some.pred here c.in-Some.ensures) c.in-At.ensures are

pub returns-in-Past : goal.returns-in-Past
returns-in-Past g c = λ token choices here are.
    token_past_targets c.args.model.now (g.V.View.decisions c.args.view.now) (g.V.View.state c.args.view.now) c.args.bound c.args.place token here c.in-Some.pred c.args.number c.in-Past.left c.own_choice.result choices (pred_here c.args.model.now (g.V.View.state c.args.view.now) c.args.place token c.in-Some.pred here c.in-Some.ensures) c.in-Past.ensures
    (λ activation rejection activated rejected. c.own_choice.ensures token activation rejection here activated rejected) are
