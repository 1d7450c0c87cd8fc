use Rattle.std.proofs.Common.{◌∙◌}
use Rattle.plan_text.proofs.Listing.{whole_written}
use Rattle.plan_text.proofs.writing.write_plan.Goals as goal

pub returns : goal.returns
returns c =
    whole_written c.args.model.now c.args.plan.now c.in_ok-out.out.items c.put_globals.new.out.items c.put_lines.new.out.items c.put_keyword.new.out.items c.from_vec.result
    c.in_ok-out.ensures.items c.in_ok-put_globals.ensures c.in_ok-put_lines.ensures c.in_ok-put_keyword.ensures (c.from_vec.ensures ∙ c.in_ok-push.ensures.items)
