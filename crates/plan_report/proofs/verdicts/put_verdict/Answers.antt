use Rattle.std.proofs.Common.{subst}
use Rattle.plan_check.specs.declared.verdict.Verdict.TheVariants.{Invalid}
use Rattle.plan_check.specs.Judged.{IsVerdict}
use Rattle.plan_report.proofs.Answering.{valid_put, verdict_put}
use Rattle.plan_report.proofs.Ranging.{place_named}
use Rattle.plan_report.proofs.verdicts.put_verdict.Goals as goal

pub put_invalid-requires-clause-there : goal.put_invalid-requires-clause-there
put_invalid-requires-clause-there c =
    place_named c.args.model.now c.args.plan.now c.requires.lawful c.requires.is_plan c.in-Invalid.clause c.in-Invalid.place
    (subst (IsVerdict c.args.model.now c.args.plan.now) c.in-Invalid.is c.requires.is_verdict).here.broken

pub returns-in-Valid : goal.returns-in-Valid
returns-in-Valid c =
    valid_put c.args.model.now c.args.plan.now c.args.verdict c.args.out.now.items c.put_word.new.out.items c.put_word.result c.in-Valid.is c.put_word.ensures

pub returns-in-Invalid : goal.returns-in-Invalid
returns-in-Invalid c =
    verdict_put c.args.model.now c.args.plan.now c.args.verdict (Invalid c.in-Invalid.clause c.in-Invalid.place) c.args.out.now.items c.put_invalid.new.out.items c.put_invalid.result c.in-Invalid.is c.put_invalid.ensures
