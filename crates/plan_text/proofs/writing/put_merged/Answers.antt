use Rattle.plan_text.proofs.Lining.{merged_put}
use Rattle.plan_text.proofs.writing.put_merged.Goals as goal

pub returns : goal.returns
returns c =
    merged_put c.args.model.now c.args.name.now c.args.target.now c.args.out.now.items c.put_keyword.new.out.items c.put_token.new.out.items c.put_token-2.new.out.items c.put_token-2.result c.requires.line.0 c.in_ok-put_keyword.ensures c.in_ok-put_token.ensures c.put_token-2.ensures
