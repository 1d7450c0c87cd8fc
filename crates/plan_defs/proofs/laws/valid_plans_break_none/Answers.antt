use Rattle.plan_defs.proofs.laws.valid_plans_break_none.Goals as goal

pub returns : goal.returns
returns c = λ model plan clause place valid first. first.here.broken (valid clause place)
