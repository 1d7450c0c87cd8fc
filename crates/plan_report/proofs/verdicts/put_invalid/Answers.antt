use Rattle.plan_report.proofs.Answering.{invalid_put}
use Rattle.plan_report.proofs.verdicts.put_invalid.Goals as goal

pub returns : goal.returns
returns c =
    invalid_put c.args.model.now c.args.plan.now c.args.clause c.args.place c.clause_word.result.now c.args.out.now.items c.put_word.new.out.items c.put_place.new.out.items c.put_place.result c.clause_word.ensures
    c.in_ok-put_word.ensures c.put_place.ensures
