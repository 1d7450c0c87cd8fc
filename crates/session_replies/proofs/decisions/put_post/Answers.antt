use Rattle.session_replies.proofs.Arguing.{post_put}
use Rattle.session_replies.proofs.decisions.put_post.Goals as goal

pub returns : goal.returns
returns c =
    post_put c.args.model.now c.args.kind c.args.arguments.now c.constraint_word.result.now c.args.out.now.items c.put_word.new.out.items c.put_arguments.new.out.items c.put_arguments.result
    c.constraint_word.ensures c.requires.writable c.in_ok-put_word.ensures c.put_arguments.ensures
