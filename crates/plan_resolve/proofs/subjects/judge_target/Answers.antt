use Rattle.std.proofs.Common.{inr}
use Rattle.plan_resolve.proofs.Naming.{is_target, no_target}
use Rattle.plan_resolve.proofs.subjects.judge_target.Goals as goal

pub returns-in-Some : goal.returns-in-Some
returns-in-Some c = is_target c.args.model.now c.args.word.now c.in_ok-found.found c.in-Some.name c.in_ok-found.ensures c.in-Some.ensures

pub returns-in-None : goal.returns-in-None
returns-in-None c = inr (
    no_target c.args.model.now c.args.word.now c.in_ok-found.found c.requires c.texts_name_one.ensures.tokens c.texts_name_one.ensures.variables c.names_are_read_back.ensures.one c.in_ok-found.ensures c.in-None.ensures
    )
