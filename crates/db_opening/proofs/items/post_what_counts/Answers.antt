use Rattle.std.proofs.Common.{refl}
use Rattle.db_posting.specs.Origins.{content_now, origin_context}
use Rattle.db_opening.proofs.Standing.{posts_counted, posts_uncounted}
use Rattle.db_opening.proofs.items.post_what_counts.Goals as goal

pub returns-then-counts-clause-posted : goal.returns-then-counts-clause-posted
returns-then-counts-clause-posted c =
    let content = content_now c.args.store.now in
    posts_counted c.args.model.now content (origin_context content.tokens c.args.origin) c.args.item.now c.args.store.now c.post_item.new.store c.post_item.result
    (λ decisions states. (c.if-counts.ensures decisions states).0 refl) c.post_item.ensures.posted

pub returns-else-counts-clause-posted : goal.returns-else-counts-clause-posted
returns-else-counts-clause-posted c = λ decisions states.
    let content = content_now c.args.store.now in
    posts_uncounted c.args.model.now content (origin_context content.tokens c.args.origin) c.args.item.now decisions c.args.store.now.net.constraints
    (λ counts. let never = (c.if-counts.ensures decisions states).1 counts in absurd (cc))
