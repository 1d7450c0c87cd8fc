use Rattle.session_replies.proofs.Commanding.{on_tokens_put}
use Rattle.session_replies.proofs.decisions.put_on_tokens.Goals as goal

pub returns : goal.returns
returns c =
    on_tokens_put c.args.model.now c.args.first.now c.args.one.now c.args.other.now c.args.out.now.items c.put_on_token.new.out.items c.put_token.new.out.items c.put_token.result c.in_ok-put_on_token.ensures c.put_token.ensures
