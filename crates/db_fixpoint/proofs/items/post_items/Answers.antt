-- One entry more.
use Rattle.std.proofs.Common.{◌+◌, sym, subst, arith}
use Rattle.model_core.specs.Block.{plain_entries}
use Rattle.db_store.specs.Stores.{Stored}
use Rattle.db_fixpoint.proofs.Posting.{PostedTo, posted_other, posted_item, posted_all, item_stands, item_postable, item_named, postable_on, named_on}
use Rattle.db_fixpoint.proofs.items.post_items.Goals as goal
use Rattle.db_fixpoint.proofs.items.post_items.Goals.{in-Item+in_ok-post_what_counts, in_default}

pub post_what_counts-requires-clause-postable : goal.post_what_counts-requires-clause-postable
post_what_counts-requires-clause-postable c =
    let model = c.args.model.now in
    let entries = c.args.entries.now in
    let stands = item_stands entries c.loop-entry.entry-index c.entry-item.result c.loop-entry-test.true c.entry-item.is c.in-Item.item c.in-Item.is in
    postable_on model c.args.block.now c.in-Item.item c.args.store.now c.loop-entry.store c.loop-entry.invariant.only c.requires.tables
    (λ tables have. item_postable model c.requires.lawful c.args.store.now c.args.block.now (plain_entries entries) c.requires.readable c.in-Item.item stands tables have)

pub post_what_counts-requires-clause-there : goal.post_what_counts-requires-clause-there
post_what_counts-requires-clause-there c =
    let model = c.args.model.now in
    let entries = c.args.entries.now in
    let stands = item_stands entries c.loop-entry.entry-index c.entry-item.result c.loop-entry-test.true c.entry-item.is c.in-Item.item c.in-Item.is in
    named_on model c.args.block.now c.in-Item.item c.args.store.now c.loop-entry.store c.loop-entry.invariant.only
    (item_named model c.requires.lawful c.args.store.now c.args.block.now (plain_entries entries) c.requires.readable c.in-Item.item stands c.is_sound.ensures c.requires.content)

pub loop-entry-preserved : goal.loop-entry-preserved
loop-entry-preserved c =
    let model = c.args.model.now in
    let block = c.args.block.now in
    let entries = c.args.entries.now in
    let loop = c.loop-entry in
    elim c.match-entry.branch [
      | in-Item+in_ok-post_what_counts w ↦
          subst (λ (stored : Stored). PostedTo model block (plain_entries entries) (loop.entry-index + 1) c.args.store.now stored) (sym w.store-is)
          (posted_item model block entries loop.entry-index c.entry-item.result c.loop-entry-test.true c.entry-item.is c.args.store.now loop.store w.post_what_counts.new.store loop.invariant
          w.in-Item.item w.in-Item.is w.in_ok-post_what_counts.ensures.posted w.in_ok-post_what_counts.ensures.only w.in_ok-post_what_counts.ensures.marks)
      | in_default w ↦
          subst (λ (stored : Stored). PostedTo model block (plain_entries entries) (loop.entry-index + 1) c.args.store.now stored) (sym w.store-is)
          (posted_other model block entries loop.entry-index c.entry-item.result c.loop-entry-test.true c.entry-item.is c.args.store.now loop.store loop.store loop.invariant w.in_default.not-Item)
    ]

pub returns-clause-posted : goal.returns-clause-posted
returns-clause-posted c =
    posted_all c.args.model.now c.args.block.now c.args.entries.now c.loop-entry.entry-index c.args.store.now c.loop-entry.store (omega arith) c.loop-entry.invariant
