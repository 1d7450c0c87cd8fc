use Rattle.std.proofs.Common.{sym, subst}
use Rattle.std.specs.Prelude.{All, OnOk}
use Rattle.model_core.specs.declared.item.Item.{Item}
use Rattle.db_refine.specs.Coming.{IsTermThere}
use Rattle.db_posting.specs.Origins.{content_now, origin_context}
use Rattle.db_posting.specs.Postable.{IsItemNamed}
use Rattle.db_posting.specs.Posted.{PostsClaims, AssertsOf, Asserts}
use Rattle.db_posting.proofs.posting.post_item.Goals as goal

pub post_constraint-requires-clause-there : goal.post_constraint-requires-clause-there
post_constraint-requires-clause-there c =
    let content = content_now c.args.store.now in
    let context = origin_context content.tokens c.args.origin in
    let there = subst (IsItemNamed content context) c.in-Constraint.is c.requires.there in
    subst (All (IsTermThere content context)) (sym c.as_slice.ensures) there

pub returns-in-Constraint-clause-posted : goal.returns-in-Constraint-clause-posted
returns-in-Constraint-clause-posted c =
    let store = c.args.store.now in
    let content = content_now store in
    let context = origin_context content.tokens c.args.origin in
    let constraints = c.post_constraint.new.store.net.constraints in
    let posted = subst (λ terms. OnOk c.post_constraint.result (PostsClaims content.names (AssertsOf context c.in-Constraint.kind terms) store.net.constraints constraints)) c.as_slice.ensures c.post_constraint.ensures.posted in
    subst (λ (item : Item). OnOk c.post_constraint.result (PostsClaims content.names (Asserts context item) store.net.constraints constraints)) (sym c.in-Constraint.is) posted

pub returns-in-Relation-clause-posted : goal.returns-in-Relation-clause-posted
returns-in-Relation-clause-posted c =
    let store = c.args.store.now in
    let content = content_now store in
    let context = origin_context content.tokens c.args.origin in
    subst (λ (item : Item). OnOk c.post_relation_from.result (PostsClaims content.names (Asserts context item) store.net.constraints c.post_relation_from.new.store.net.constraints)) (sym c.in-Relation.is) c.post_relation_from.ensures.posted
