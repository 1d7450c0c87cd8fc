use Rattle.std.proofs.Common.{subst, arith}
use Rattle.constraint_net.specs.Agendas.{WaitsAlone}
use Rattle.constraint_net.proofs.Keepers.{kept_enlarged, quiet_enrolled, seen_same, not_posted, posts_net, args_within}
use Rattle.constraint_net.proofs.network.Net.post.Goals as goal

pub enrol-requires-clause-variables : goal.enrol-requires-clause-variables
enrol-requires-clause-variables c =
    let net = c.self.inside in
    args_within c.args.self.now net.domains net.tables net.constraints net.marked c.self.view_is c.self.invariant c.args.args.now c.requires.arguments

pub enrol-requires-clause-number : goal.enrol-requires-clause-number
enrol-requires-clause-number c = omega (arith, c.len.ensures, c.self.invariant.agenda.room)

pub invariant_of-self : goal.invariant_of-self
invariant_of-self c =
    let net = c.self.inside in
    kept_enlarged c.args.self.now net.domains net.tables net.constraints net.marked c.enrol.new.self c.self.view_is c.self.invariant c.enrol.ensures.enrols.grows

pub returns-in_err-enrol : goal.returns-in_err-enrol
returns-in_err-enrol c =
    let net = c.self.inside in
    not_posted c.args.self.now _ c.args.kind c.args.args.now c.from_residual.result c.from_residual.ensures.0
    (seen_same c.args.self.now net.domains net.tables net.constraints net.marked c.enrol.new.self c.self.view_is c.self.invariant c.enrol.ensures.enrols.grows
    (quiet_enrolled c.args.self.now net.domains net.tables net.constraints net.marked c.enrol.new.self c.self.view_is c.self.invariant c.enrol.ensures.enrols.grows
    (subst (λ number. WaitsAlone number net.domains.agenda c.enrol.new.self) c.len.ensures c.enrol.ensures.alone)))

pub invariant_of-self-2 : goal.invariant_of-self-2
invariant_of-self-2 c =
    let net = c.self.inside in
    (posts_net c.args.self.now net.domains net.tables net.constraints net.marked c.enrol.new.self c.self.view_is c.self.invariant c.push.new.self c.args.kind c.args.args.now c.push.result c.len.result c.len.ensures c.requires c.in_ok-enrol.ensures.enrols c.enrol.ensures.alone c.push.ensures.ok c.push.ensures.err).0

pub returns : goal.returns
returns c =
    let net = c.self.inside in
    (posts_net c.args.self.now net.domains net.tables net.constraints net.marked c.enrol.new.self c.self.view_is c.self.invariant c.push.new.self c.args.kind c.args.args.now c.push.result c.len.result c.len.ensures c.requires c.in_ok-enrol.ensures.enrols c.enrol.ensures.alone c.push.ensures.ok c.push.ensures.err).1
