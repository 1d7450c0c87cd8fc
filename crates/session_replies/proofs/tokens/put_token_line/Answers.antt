use Rattle.session_replies.proofs.Tokening.{pred_listed, targets_placed, token_line_put}
use Rattle.session_replies.proofs.tokens.put_token_line.Goals as goal

pub put_predicate-requires-clause-there : goal.put_predicate-requires-clause-there
put_predicate-requires-clause-there g c = pred_listed c.args.model.now c.args.token.now c.pred_of.result c.requires.lawful c.requires.there c.pred_of.ensures

pub put_state-requires-clause-there : goal.put_state-requires-clause-there
put_state-requires-clause-there g c = targets_placed c.args.model.now (g.V.View.state c.args.view.now) (g.V.View.decisions c.args.view.now) c.args.token.now c.args.state c.requires.state

pub returns : goal.returns
returns g c =
    token_line_put c.args.model.now (g.V.View.state c.args.view.now) (g.V.View.decisions c.args.view.now) c.args.token.now c.pred_of.result c.args.state
    c.args.out.now.items c.put_token.new.out.items c.put_predicate.new.out.items c.put_state.new.out.items c.put_line_feed.new.out.items c.put_line_feed.result
    c.requires.there c.pred_of.ensures c.requires.state c.in_ok-put_token.ensures c.in_ok-put_predicate.ensures c.in_ok-put_state.ensures c.put_line_feed.ensures
