use Rattle.plan_text.proofs.Stepping.{fourth_value, first_put}
use Rattle.plan_text.proofs.writing.put_first_parts.Goals as goal

pub put_part-requires-4-clause-value : goal.put_part-requires-4-clause-value
put_part-requires-4-clause-value c = fourth_value c.args.model.now c.args.values.now c.requires.lawful c.requires.values

pub returns : goal.returns
returns c =
    first_put c.args.model.now c.args.values.now c.args.out.now.items c.put_part.new.out.items c.put_part-2.new.out.items c.put_part-3.new.out.items c.put_part-4.new.out.items c.put_part-4.result c.requires.lawful c.requires.values
    c.in_ok-put_part.ensures c.in_ok-put_part-2.ensures c.in_ok-put_part-3.ensures c.put_part-4.ensures
