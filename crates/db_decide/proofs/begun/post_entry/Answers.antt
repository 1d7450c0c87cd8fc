use Rattle.std.proofs.lemmas.Result.{on_ok_weaker}
use Rattle.db_posting.specs.Origins.{content_now, origin_context}
use Rattle.db_decide.proofs.Saying.{said_of_entry, no_entry_said}
use Rattle.db_decide.proofs.begun.post_entry.Goals as goal

pub post_of_root-requires-clause-postable : goal.post_of_root-requires-clause-postable
post_of_root-requires-clause-postable c = (c.requires.can c.in-Item.item c.in-Item.is).0

pub post_of_root-requires-clause-there : goal.post_of_root-requires-clause-there
post_of_root-requires-clause-there c = (c.requires.can c.in-Item.item c.in-Item.is).1

pub returns-in-Item-clause-posted : goal.returns-in-Item-clause-posted
returns-in-Item-clause-posted c =
    on_ok_weaker c.post_of_root.result
    (said_of_entry c.args.model.now c.args.root (origin_context (content_now c.args.store.now).tokens c.args.origin) c.args.entry.now c.in-Item.item c.in-Item.is
    c.args.store.now c.post_of_root.new.store) c.post_of_root.ensures.posted

pub returns-in_default-clause-posted : goal.returns-in_default-clause-posted
returns-in_default-clause-posted c =
    no_entry_said c.args.model.now c.args.root (origin_context (content_now c.args.store.now).tokens c.args.origin) c.args.entry.now c.in_default.not-Item c.args.store.now
