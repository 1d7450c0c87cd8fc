use Rattle.std.proofs.Common.{◌≡◌, false, List, sym, ◌∙◌, subst}
use Rattle.std.specs.Prelude.{IfOk}
use Rattle.model_core.specs.declared.decision.Decision.{Decision}
use Rattle.model_core.specs.declared.model.Model.{Model}
use Rattle.model_core.specs.Lawful.{IsLawful}
use Rattle.plan_defs.specs.Settling.{IsConflict}
use Rattle.model_core.specs.State.{State}
use Rattle.plan_db.specs.Database.{HasLeast, HasCollapsed}
use Rattle.conflict_core.proofs.Telling.{when_true, when_false, conflict_told, conflict_needed}
use Rattle.conflict_core.proofs.explaining.why.Goals as goal

pub returns-then-is_consistent-clause-told : goal.returns-then-is_consistent-clause-told
returns-then-is_consistent-clause-told c =
    let ready : c.args.db.now.behind ≡ false = sym c.is_behind.ensures ∙ c.if-is_behind.false in
    (ready, when_true ((state : State) × HasLeast c.args.db.now.database state) (HasCollapsed c.args.db.now.database) c.is_consistent.result (c.is_consistent.ensures.state ready) c.if-is_consistent.true)

pub conflict_of-requires : goal.conflict_of-requires
conflict_of-requires c = subst IsLawful (sym c.model.ensures.model) c.model.ensures.sound.lawful

pub returns : goal.returns
returns c =
    let held = c.args.db.now in
    let ready : held.behind ≡ false = sym c.is_behind.ensures ∙ c.if-is_behind.false in
    let collapsed : HasCollapsed held.database = when_false ((state : State) × HasLeast held.database state) (HasCollapsed held.database) c.is_consistent.result (c.is_consistent.ensures.state ready) c.if-is_consistent.false in
    let found = c.conflict_of.result in
    let of_model = subst (λ (model : Model). IfOk found (λ conflict. IsConflict model c.decisions.result.now conflict.items)) c.model.ensures.model c.conflict_of.ensures in
    let of_list = subst (λ (list : List Decision). IfOk found (λ conflict. IsConflict held.database.model list conflict.items)) c.decisions.ensures of_model in
    let told = conflict_told held found c.or_memory.result ready collapsed of_list c.or_memory.ensures in
    record {
      told = told;
      minimal = conflict_needed held c.or_memory.result c.conflicts_are_minimal.ensures c.model.ensures.sound told;
    }
