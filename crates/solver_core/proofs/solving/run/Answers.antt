use Rattle.std.proofs.Common.{◌≡◌, ◌+◌, length, rules, sym, ap, ◌∙◌}
use Rattle.plan_db.specs.Database.{Database}
use Rattle.solver_core.specs.Underway.{IsAbove}
use Rattle.solver_core.proofs.Resulting.{ended_above, rests}
use Rattle.solver_core.proofs.solving.run.Goals as goal

pub keep_found-requires : goal.keep_found-requires
keep_found-requires g c =
    let above : IsAbove g.task c.search_anew-end.new.db = ended_above (g.R.FlawRule.is_first c.args.rule.now) (g.R.FlawRule.are_choices c.args.rule.now) g.task c.search_anew-end.new.db c.search_anew-end.result c.search_anew-end.ensures in
    let before : c.history-before.result + 1 ≡ length g.task.database.history = c.history-before.ensures ∙ ap (λ (d : Database). length d.history) (sym c.requires.1.1.1.0) in
    search rules

pub returns : goal.returns
returns g c =
    rests (g.R.FlawRule.is_first c.args.rule.now) (g.R.FlawRule.are_choices c.args.rule.now) g.task c.search_anew-end.new.db c.keep_found.new.db c.search_anew-end.result c.or_memory.result c.search_anew-end.ensures c.keep_found.ensures
    c.or_memory.ensures
