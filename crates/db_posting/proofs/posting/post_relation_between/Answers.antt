use Rattle.std.proofs.Common.{subst}
use Rattle.std.specs.Prelude.{Contains, OnOk}
use Rattle.token_store.specs.Orders.{name_at}
use Rattle.db_posting.specs.Origins.{content_now}
use Rattle.db_posting.specs.Posted.{PostsClaims}
use Rattle.db_posting.proofs.posting.post_relation_between.Goals as goal

pub returns-clause-posted : goal.returns-clause-posted
returns-clause-posted c =
    let store = c.args.store.now in
    let content = content_now store in
    subst (λ claims. OnOk c.post_comparisons.result (PostsClaims content.names (Contains claims) store.net.constraints c.post_comparisons.new.store.net.constraints))
    (c.comparisons.ensures (name_at content.tokens c.args.one) (name_at content.tokens c.args.other)) c.post_comparisons.ensures.posted
