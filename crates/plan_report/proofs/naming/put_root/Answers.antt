use Rattle.plan_report.proofs.Placing.{root_there, root_put}
use Rattle.plan_report.proofs.naming.put_root.Goals as goal

pub put_token_word-requires-clause-there : goal.put_token_word-requires-clause-there
put_token_word-requires-clause-there c = root_there c.args.model.now c.args.number c.new-steps.result c.new-steps.ensures c.requires.there

pub returns : goal.returns
returns c =
    root_put c.args.model.now c.args.number c.new-steps.result c.args.out.now.items c.put_token_word.new.out.items c.put_token_word.result c.new-steps.ensures c.put_token_word.ensures
