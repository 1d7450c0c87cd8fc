use Rattle.std.proofs.Common.{[], ◌∷◌, ◌++◌, ◌∙◌, ap}
use Rattle.eu_name.specs.declared.name.VarName.{VarName}
use Rattle.plan_core.proofs.Wholes.{on_any}
use Rattle.plan_core.proofs.reading.note_name.Goals as goal

pub returns-clause-known : goal.returns-clause-known
returns-clause-known c =
    on_any c.statement_name-2.result (c.in_ok-know.ensures ∙ ap (λ (n : VarName). c.args.known.now.keys ++ n ∷ []) c.in_ok-name.ensures)
