use Rattle.std.proofs.Common.{refl}
use Rattle.std.proofs.lemmas.Result.{on_ok_weaker}
use Rattle.db_posting.specs.Origins.{content_now, origin_context}
use Rattle.db_decide.proofs.Saying.{said_of_item}
use Rattle.db_decide.proofs.begun.post_of_root.Goals as goal

pub returns-then-is_about_root-clause-posted : goal.returns-then-is_about_root-clause-posted
returns-then-is_about_root-clause-posted c =
    on_ok_weaker c.post_what_counts.result
    (said_of_item c.args.model.now c.args.root (origin_context (content_now c.args.store.now).tokens c.args.origin) c.args.item.now (c.if-is_about_root.ensures.0 refl)
    c.args.store.now c.post_what_counts.new.store) c.post_what_counts.ensures.posted
