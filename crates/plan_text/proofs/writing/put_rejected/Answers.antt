use Rattle.plan_text.proofs.Lining.{rejected_put}
use Rattle.plan_text.proofs.writing.put_rejected.Goals as goal

pub returns : goal.returns
returns c = rejected_put c.args.model.now c.args.name.now c.args.out.now.items c.put_keyword.new.out.items c.put_token.new.out.items c.put_token.result c.requires.line c.in_ok-put_keyword.ensures c.put_token.ensures
