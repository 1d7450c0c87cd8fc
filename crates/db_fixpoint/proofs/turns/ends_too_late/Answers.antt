use Rattle.token_store.specs.Orders.{name_at}
use Rattle.db_posting.specs.Origins.{content_now}
use Rattle.db_fixpoint.proofs.Sharing.{late_told}
use Rattle.db_fixpoint.proofs.turns.ends_too_late.Goals as goal

pub returns-in_default : goal.returns-in_default
returns-in_default c = λ late. c.in_default.ensures late.end late.gives_end

pub returns-in_default-domain_of : goal.returns-in_default-domain_of
returns-in_default-domain_of c = λ late. c.in_default-domain_of.ensures late.start late.gives_start

pub returns : goal.returns
returns c =
    let names = (content_now c.args.store.now).tokens in
    late_told c.args.store.now c.is_sound.ensures (name_at names c.args.one) (name_at names c.args.other) c.in-Some.end.now c.in-Some-domain_of.start.now c.is_below.result
    c.in-Some.ensures c.in-Some-domain_of.ensures c.is_below.ensures
