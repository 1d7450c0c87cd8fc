use Rattle.std.proofs.Common.{sym, subst}
use Rattle.db_store.specs.Stores.{Stored}
use Rattle.db_posting.specs.Origins.{content_now, origin_context}
use Rattle.db_posting.proofs.Storing.{only_both, marks_both}
use Rattle.db_decide.specs.RootItems.{EntrySays, PostsSaid, CanPostEntry}
use Rattle.db_decide.proofs.Saying.{said_more, said_of_all, roots_kept, entry_kept, origin_kept}
use Rattle.db_decide.proofs.begun.post_entries.Goals as goal

pub post_entry-requires-clause-origin : goal.post_entry-requires-clause-origin
post_entry-requires-clause-origin c = origin_kept c.args.store.now c.loop-entry.store c.loop-entry.invariant.only c.args.origin c.requires.origin

pub post_entry-requires-clause-roots : goal.post_entry-requires-clause-roots
post_entry-requires-clause-roots c = roots_kept c.args.model.now c.args.store.now c.loop-entry.store c.loop-entry.invariant.only c.requires.roots

pub post_entry-requires-clause-can : goal.post_entry-requires-clause-can
post_entry-requires-clause-can c =
    let old = c.args.store.now in
    entry_kept old c.loop-entry.store c.loop-entry.invariant.only c.args.origin c.entry-item.result
    (subst (CanPostEntry old.net.tables (content_now old) (origin_context (content_now old).tokens c.args.origin)) (sym c.entry-item.is)
    (c.requires.can c.loop-entry.entry-index c.entry-item.result c.loop-entry-test.true))

pub loop-entry-preserved : goal.loop-entry-preserved
loop-entry-preserved c =
    let model = c.args.model.now in
    let old = c.args.store.now in
    let loop = c.loop-entry in
    let new = c.post_entry.new.store in
    let step = c.in_ok-post_entry.ensures in
    let entry = c.entry-item.result in
    let context = origin_context (content_now old).tokens c.args.origin in
    let next = subst (λ (s : Stored). PostsSaid model (λ decisions. EntrySays model decisions c.args.root (origin_context (content_now s).tokens c.args.origin) entry) loop.store new)
    loop.invariant.only step.posted in
    record {
      posted = said_more model (λ decisions. EntrySays model decisions c.args.root context) c.args.entries.now loop.entry-index entry c.loop-entry-test.true c.entry-item.is
          old loop.store new loop.invariant.only loop.invariant.posted next;
      only = only_both old loop.store new loop.invariant.only step.only;
      marks = marks_both old loop.store new loop.invariant.marks step.marks;
    }

pub returns-clause-posted : goal.returns-clause-posted
returns-clause-posted c =
    let model = c.args.model.now in
    let old = c.args.store.now in
    said_of_all model (λ decisions. EntrySays model decisions c.args.root (origin_context (content_now old).tokens c.args.origin)) c.args.entries.now c.loop-entry.entry-index
    c.loop-entry-test.false old c.loop-entry.store c.loop-entry.invariant.posted
