use Rattle.std.proofs.Common.{sym, subst}
use Rattle.std.specs.Prelude.{OnOk}
use Rattle.model_core.specs.declared.item.Item.TheVariants.{Relation}
use Rattle.db_posting.specs.declared.origin.Origin.{Origin}
use Rattle.db_posting.specs.Origins.{content_now, origin_context}
use Rattle.db_posting.specs.Posted.{PostsClaims, Asserts}
use Rattle.db_posting.proofs.posting.post_relation_from.Goals as goal

pub returns-clause-posted : goal.returns-clause-posted
returns-clause-posted c =
    let store = c.args.store.now in
    let content = content_now store in
    subst (λ (origin : Origin). OnOk c.post_relation.result (PostsClaims content.names (Asserts (origin_context content.tokens origin) (Relation c.args.rel c.args.slot))
    store.net.constraints c.post_relation.new.store.net.constraints)) (sym c.in-Rule.is) c.post_relation.ensures.posted
