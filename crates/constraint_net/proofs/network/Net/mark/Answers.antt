use Rattle.constraint_net.proofs.Keepers.{marked_kept, marked_seen, idle_at, idle_told, mark_is, mark_latest, marks_kept}
use Rattle.constraint_net.proofs.network.Net.mark.Goals as goal

pub invariant_of-self : goal.invariant_of-self
invariant_of-self c =
    let net = c.self.inside in
    marked_kept c.args.self.now net.domains net.tables net.constraints net.marked (record { cells = c.mark-self-inside.result; constraints = c.len-count.result; idle = c.is_idle.result }) c.self.view_is c.self.invariant c.mark-self-inside.ensures.newest

pub returns-clause-marked : goal.returns-clause-marked
returns-clause-marked c =
    let net = c.self.inside in
    marked_seen c.args.self.now net.domains net.tables net.constraints net.marked (record { cells = c.mark-self-inside.result; constraints = c.len-count.result; idle = c.is_idle.result }) c.self.view_is c.self.invariant c.mark-self-inside.ensures.newest

pub returns-clause-is : goal.returns-clause-is
returns-clause-is c =
    let net = c.self.inside in
    mark_is c.args.self.now net.domains net.tables net.constraints net.marked (record { cells = c.mark-self-inside.result; constraints = c.len-count.result; idle = c.is_idle.result }) c.self.view_is c.self.invariant c.mark-self-inside.ensures.newest c.mark-self-inside.ensures.place c.len-count.ensures
    (idle_at c.args.self.now net.domains net.tables net.constraints net.marked (record { cells = c.mark-self-inside.result; constraints = c.len-count.result; idle = c.is_idle.result }) c.self.view_is c.self.invariant c.mark-self-inside.ensures.newest
    c.is_idle.result c.len-count.result c.len-count.ensures c.is_idle.ensures)

pub returns-clause-latest : goal.returns-clause-latest
returns-clause-latest c =
    let net = c.self.inside in
    mark_latest c.args.self.now net.domains net.tables net.constraints net.marked (record { cells = c.mark-self-inside.result; constraints = c.len-count.result; idle = c.is_idle.result }) c.self.view_is c.self.invariant c.mark-self-inside.ensures.newest c.len-count.ensures

pub returns-clause-keeps : goal.returns-clause-keeps
returns-clause-keeps c =
    let net = c.self.inside in
    marks_kept c.args.self.now net.domains net.tables net.constraints net.marked (record { cells = c.mark-self-inside.result; constraints = c.len-count.result; idle = c.is_idle.result }) c.self.view_is c.self.invariant c.mark-self-inside.ensures.newest

pub returns-clause-idle : goal.returns-clause-idle
returns-clause-idle c =
    let net = c.self.inside in
    idle_told c.args.self.now net.domains net.tables net.constraints net.marked (record { cells = c.mark-self-inside.result; constraints = c.len-count.result; idle = c.is_idle.result }) c.self.view_is c.self.invariant c.mark-self-inside.ensures.newest
    c.is_idle.result c.len-count.result c.len-count.ensures c.is_idle.ensures
