use Rattle.plan_text.proofs.Putting.{token_put}
use Rattle.plan_text.proofs.writing.put_token.Goals as goal

pub returns : goal.returns
returns c = token_put c.args.model.now c.args.token.now c.in_ok-text.text c.args.gap.now c.args.out.now.items c.put_name.new.out.items c.put_name.result c.requires.lawful c.in_ok-text.ensures c.put_name.ensures
