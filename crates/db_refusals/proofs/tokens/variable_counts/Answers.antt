use Rattle.std.proofs.Common.{sym, subst}
use Rattle.std.specs.Prelude.{◌↔◌, IsTrue}
use Rattle.eu_name.specs.declared.name.VarName.{VarName}
use Rattle.model_core.specs.Decided.{IsTaken}
use Rattle.plan_defs.specs.Terms.{Counts}
use Rattle.db_refusals.proofs.Told.{part_counts, local_counts}
use Rattle.db_refusals.proofs.tokens.variable_counts.Goals as goal

pub returns-in-Token : goal.returns-in-Token
returns-in-Token c = λ decisions snapshot same told.
    subst (λ (name : VarName). IsTrue c.token_counts.result ↔ Counts c.args.model.now (IsTaken decisions) name) (sym c.in-Token.is)
    (part_counts c.args.model.now (IsTaken decisions) c.in-Token.token c.in-Token.field-1 c.token_counts.result (c.token_counts.ensures decisions snapshot same told))

pub returns-in-Local : goal.returns-in-Local
returns-in-Local c = λ decisions snapshot same told.
    subst (λ (name : VarName). IsTrue c.token_counts-in-Local.result ↔ Counts c.args.model.now (IsTaken decisions) name) (sym c.in-Local.is)
    (local_counts c.args.model.now (IsTaken decisions) c.in-Local.token c.in-Local.rule c.in-Local.number c.token_counts-in-Local.result
    (c.token_counts-in-Local.ensures decisions snapshot same told))
