use Rattle.session_replies.proofs.Commanding.{on_token_put}
use Rattle.session_replies.proofs.decisions.put_on_token.Goals as goal

pub returns : goal.returns
returns c =
    on_token_put c.args.model.now c.args.first.now c.args.token.now c.args.out.now.items c.put_text.new.out.items c.put_token.new.out.items c.put_token.result c.in_ok-put_text.ensures c.put_token.ensures
