-- A token's own line, and those of its locals if it isn't rejected.
use Rattle.plan_states.proofs.Completing.{token_kept}
use Rattle.plan_states.proofs.Placing.{after_all, part_count}
use Rattle.plan_states.proofs.tokens.add_token.Goals as goal

pub add_own-requires-clause-parts : goal.add_own-requires-clause-parts
add_own-requires-clause-parts g c = part_count (g.V.View.model c.args.view.now) c.args.model.now (g.V.View.state c.args.view.now) c.args.place c.in-Some.pred c.count_parts.result c.requires.model c.in-Some.ensures c.count_parts.ensures

pub returns : goal.returns
returns g c = after_all _ _ _ c.add_locals.result c.add_locals.ensures (λ locals token at.
    token_kept (g.V.View.model c.args.view.now) (g.V.View.decisions c.args.view.now) (g.V.View.state c.args.view.now) c.requires.settled token c.args.lines.now.items c.add_own.new.lines.items c.add_locals.new.lines.items (c.if-is_rejected.ensures token at) (c.in_ok-add_own.ensures token at) (locals token at))
