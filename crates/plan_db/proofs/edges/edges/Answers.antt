use Rattle.std.proofs.Common.{sym, ◌∙◌}
use Rattle.model_core.specs.History.{standing}
use Rattle.db_history.proofs.Keeping.{leaves_rest}
use Rattle.plan_db.proofs.Edging.{void_edges, some_stand, rests_before, settled_so, edges_found}
use Rattle.plan_db.proofs.edges.edges.Goals as goal

pub returns-in-Rest : goal.returns-in-Rest
returns-in-Rest c = leaves_rest c.args.model.now (standing c.args.log.now) c.args.kept.now c.requires.kept.list (sym c.footing.ensures ∙ c.in-Rest.is)

pub time_edges-requires-clause-some : goal.time_edges-requires-clause-some
time_edges-requires-clause-some c =
    some_stand c.args.model.now c.args.log.now c.args.kept.now c.requires.kept (sym c.footing.ensures ∙ c.in-Fallen.is) c.standing.result.now c.standing.ensures c.store.result.now c.store.ensures

pub time_edges-requires-clause-rest : goal.time_edges-requires-clause-rest
time_edges-requires-clause-rest c =
    rests_before c.args.model.now c.args.log.now c.args.kept.now c.requires.kept (sym c.footing.ensures ∙ c.in-Fallen.is) c.standing.result.now c.standing.ensures c.store.result.now c.store.ensures

pub time_edges-requires-clause-settled : goal.time_edges-requires-clause-settled
time_edges-requires-clause-settled c =
    settled_so c.args.model.now c.args.log.now c.args.kept.now c.requires.kept (sym c.footing.ensures ∙ c.in-Fallen.is) c.standing.result.now c.standing.ensures c.store.result.now c.store.ensures

pub returns-in-Fallen : goal.returns-in-Fallen
returns-in-Fallen c =
    edges_found c.args.model.now c.args.log.now c.args.kept.now c.requires.kept (sym c.footing.ensures ∙ c.in-Fallen.is) c.standing.result.now c.standing.ensures c.store.result.now c.store.ensures
    c.time_edges.result c.or_memory.result c.time_edges.ensures c.or_memory.ensures

pub returns-in-Void : goal.returns-in-Void
returns-in-Void c =
    void_edges c.args.model.now c.args.log.now c.args.kept.now c.requires.kept (sym c.footing.ensures ∙ c.in-Void.is) c.new.result.items c.new.ensures.items
