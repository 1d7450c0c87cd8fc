-- Each sort of place has its own look-up.
use Rattle.std.proofs.Common.{sym, subst}
use Rattle.std.specs.Prelude.{option_copied}
use Rattle.flaw_core.specs.declared.flaw.VarPlace.{VarPlace}
use Rattle.flaw_core.specs.Seeking.{IsDomainOf}
use Rattle.flaw_core.proofs.Telling.{global_domain, part_domain, local_domain}
use Rattle.flaw_core.proofs.variables.domain_of.Goals as goal

pub returns-in-Global : goal.returns-in-Global
returns-in-Global g c =
    subst (λ (a : VarPlace). IsDomainOf (g.V.View.state c.args.view.now) a (option_copied c.domain.result)) (sym c.in-Global.is)
    (global_domain (g.V.View.state c.args.view.now) c.in-Global.number (option_copied c.domain.result) c.domain.ensures)

pub returns-in-Part : goal.returns-in-Part
returns-in-Part g c =
    subst (λ (a : VarPlace). IsDomainOf (g.V.View.state c.args.view.now) a (option_copied c.domain_at.result)) (sym c.in-Part.is)
    (part_domain (g.V.View.state c.args.view.now) c.in-Part.place c.in-Part.part (option_copied c.domain_at.result) c.domain_at.ensures)

pub returns-in-Local : goal.returns-in-Local
returns-in-Local g c =
    subst (λ (a : VarPlace). IsDomainOf (g.V.View.state c.args.view.now) a (option_copied c.local_at.result)) (sym c.in-Local.is)
    (local_domain (g.V.View.state c.args.view.now) c.in-Local.token c.in-Local.rule c.in-Local.number (option_copied c.local_at.result) c.local_at.ensures)
