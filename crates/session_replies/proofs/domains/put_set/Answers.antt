use Rattle.session_replies.proofs.Spacing.{set_put}
use Rattle.session_replies.proofs.domains.put_set.Goals as goal

pub returns : goal.returns
returns c =
    set_put c.args.model.now c.args.kind c.args.domain.now c.args.out.now.items c.put_text.new.out.items c.put_members.new.out.items c.put_text-2.new.out.items c.put_text-2.result c.requires.set
    c.in_ok-put_text.ensures c.in_ok-put_members.ensures c.put_text-2.ensures
