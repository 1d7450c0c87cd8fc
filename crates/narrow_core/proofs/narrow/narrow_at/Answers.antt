use Rattle.narrow_core.proofs.Places.{narrows_at, domains_at}
use Rattle.narrow_core.proofs.narrow.narrow_at.Goals as goal

pub returns-clause-narrowed : goal.returns-clause-narrowed
returns-clause-narrowed g c =
    let front = c.split_at_mut-before in
    let back = c.split_at_mut-own in
    narrows_at c.args.args.now front.result.0.now front.result.1.now back.result.0.now back.result.1.now c.index-own-0.result c.keep_beside.new.own
    front.ensures.value back.ensures.value back.ensures.front_len c.index-own-0.is
    (g.C.Narrow.reach c.args.constraint.now) (g.C.Narrow.holds c.args.constraint.now) c.args.place c.keep_beside.result front.ensures.front_len c.keep_beside.ensures.kept

pub returns-clause-domains : goal.returns-clause-domains
returns-clause-domains g c =
    let front = c.split_at_mut-before in
    let back = c.split_at_mut-own in
    domains_at c.args.args.now front.result.0.now front.result.1.now back.result.0.now back.result.1.now c.index-own-0.result c.keep_beside.new.own
    front.ensures.value back.ensures.value back.ensures.front_len c.index-own-0.is c.keep_beside.ensures.domain
