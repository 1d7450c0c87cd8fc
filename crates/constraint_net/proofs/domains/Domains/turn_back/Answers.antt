use Rattle.std.proofs.Common.{sym, subst}
use Rattle.constraint_net.specs.Agendas.{TurnsBack}
use Rattle.constraint_net.proofs.domains.Domains.turn_back.Goals as goal

pub returns-then-idle-clause-turns : goal.returns-then-idle-clause-turns
returns-then-idle-clause-turns c =
    subst (λ idle. TurnsBack idle c.args.mark c.args.self.now.cells c.args.self.now.agenda c.rest.new.self) (sym c.if-idle.true) c.rest.ensures

pub returns-clause-turns : goal.returns-clause-turns
returns-clause-turns c =
    subst (λ idle. TurnsBack idle c.args.mark c.args.self.now.cells c.args.self.now.agenda c.alert_steps.new.agenda) (sym c.if-idle.false) c.alert_steps.ensures
