use Rattle.std.proofs.Common.{refl, sym}
use Rattle.plan_defs.proofs.Histories.{standing_settled}
use Rattle.solver_core.proofs.Resulting.{solves, proves_plans}
use Rattle.solver_core.proofs.solving.solve.Goals as goal

pub returns-then-not-is_consistent-clause-solves : goal.returns-then-not-is_consistent-clause-solves
returns-then-not-is_consistent-clause-solves g c =
    let ready = sym c.if-is_behind.ensures in (record { before = ready; same = refl }, c.if-not-is_consistent.ensures.state ready)

pub returns-clause-solves : goal.returns-clause-solves
returns-clause-solves g c =
    let ready = sym c.if-is_behind.ensures in
    solves (g.R.FlawRule.is_first c.args.rule.now) (g.R.FlawRule.are_choices c.args.rule.now) c.args.tokens c.args.budget c.args.db.now c.run.new.db c.run.result ready (c.if-not-is_consistent.ensures.state ready) c.run.ensures

pub returns-clause-proves : goal.returns-clause-proves
returns-clause-proves g c =
    let model = c.args.db.now.database.model in
    let sound = c.is_consistent.ensures.sound in
    proves_plans (g.R.FlawRule.is_first c.args.rule.now) (g.R.FlawRule.are_choices c.args.rule.now) c.args.db.now sound.lawful
    (standing_settled model c.args.db.now.database.history sound.history) c.args.tokens c.requires
    (g.met.R.FlawRule.clears c.args.rule.now model)
    (λ decisions state flaw choices choice. g.met.R.FlawRule.admits c.args.rule.now model decisions state c.args.tokens flaw choices choice c.requires)
    (λ decisions state flaw choices plan. g.met.R.FlawRule.covers c.args.rule.now model decisions state c.args.tokens flaw choices plan)
    c.args.budget c.run.new.db c.run.result c.run.ensures
