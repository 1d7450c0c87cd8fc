use Rattle.session_replies.proofs.Arguing.{relate_put}
use Rattle.session_replies.proofs.decisions.put_relate.Goals as goal

pub returns : goal.returns
returns c =
    relate_put c.args.model.now c.args.relation c.relation_word.result.now c.args.one.now c.args.other.now c.args.out.now.items c.put_text.new.out.items c.put_on_tokens.new.out.items c.put_on_tokens.result
    c.relation_word.ensures c.in_ok-put_text.ensures c.put_on_tokens.ensures
