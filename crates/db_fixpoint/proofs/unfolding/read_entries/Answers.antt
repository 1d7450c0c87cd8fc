-- What is posted and watched leaves what the block names as it is.
use Rattle.std.proofs.Common.{◌<◌, length, sym, subst}
use Rattle.std.proofs.lemmas.Option.{slice_get_within}
use Rattle.model_core.specs.Block.{plain_entries}
use Rattle.token_store.specs.Tokens.{tokens_now}
use Rattle.db_store.specs.Stores.{Stored}
use Rattle.db_fixpoint.proofs.FollowedBranches.{token_below}
use Rattle.db_fixpoint.proofs.Whole.{guards_named_on, watching_reads, entries_unfold, all_adds, all_past}
use Rattle.db_posting.proofs.Storing.{marks_both}
use Rattle.db_fixpoint.proofs.unfolding.read_entries.Goals as goal

pub watch_guards-requires-clause-number : goal.watch_guards-requires-clause-number
watch_guards-requires-clause-number c =
    subst (λ (stored : Stored). c.args.number < length stored.blocks) (sym c.in_ok-post_items.ensures.only)
    (slice_get_within c.args.store.now.blocks c.args.number c.args.block.now c.requires.block)

pub watch_guards-requires-clause-token : goal.watch_guards-requires-clause-token
watch_guards-requires-clause-token c =
    subst (λ (stored : Stored). c.args.block.now.token < length (tokens_now stored.past)) (sym c.in_ok-post_items.ensures.only)
    (token_below c.args.model.now c.args.store.now c.is_sound.ensures c.args.block.now c.requires.readable.has.is_open)

pub watch_guards-requires-clause-named : goal.watch_guards-requires-clause-named
watch_guards-requires-clause-named c =
    guards_named_on c.args.model.now c.args.block.now (plain_entries c.args.entries.now) c.args.store.now c.post_items.new.store c.requires.lawful c.is_sound.ensures c.requires.readable
    c.in_ok-post_items.ensures.only

pub follow_all-followed-requires-clause-readable : goal.follow_all-followed-requires-clause-readable
follow_all-followed-requires-clause-readable c =
    watching_reads c.args.model.now c.args.number c.args.block.now c.args.entries.now c.args.store.now c.post_items.new.store c.watch_guards.new.store c.watch_guards.new.store
    c.is_sound.ensures c.is_sound-2.ensures c.is_sound-2.ensures c.requires.block c.requires.readable c.in_ok-post_items.ensures.only c.in_ok-post_items.ensures.posted
    c.in_ok-watch_guards.ensures.only c.in_ok-watch_guards.ensures.watched

pub returns-clause-unfolds : goal.returns-clause-unfolds
returns-clause-unfolds c =
    entries_unfold c.args.model.now c.args.number c.args.block.now c.args.entries.now c.args.store.now c.post_items.new.store c.watch_guards.new.store c.follow_all-followed.new.store
    c.is_sound.ensures c.is_sound-2.ensures c.is_sound-3.ensures c.requires.block c.requires.readable c.in_ok-post_items.ensures.only c.in_ok-post_items.ensures.posted
    c.in_ok-watch_guards.ensures.only c.in_ok-watch_guards.ensures.watched
    c.follow_all-followed.result c.follow_all-followed.ensures.underway c.follow_all-followed.ensures.followed c.follow_all-followed.ensures.adds

pub returns-clause-tokens : goal.returns-clause-tokens
returns-clause-tokens c =
    all_past c.args.model.now c.args.number c.args.block.now c.args.entries.now c.args.store.now c.post_items.new.store c.watch_guards.new.store c.follow_all-followed.new.store
    c.is_sound.ensures c.is_sound-2.ensures c.is_sound-3.ensures c.requires.block c.requires.readable c.in_ok-post_items.ensures.only c.in_ok-post_items.ensures.posted
    c.in_ok-watch_guards.ensures.only c.in_ok-watch_guards.ensures.watched
    c.follow_all-followed.result c.follow_all-followed.ensures.tokens

pub returns-clause-adds : goal.returns-clause-adds
returns-clause-adds c =
    all_adds c.args.model.now c.args.number c.args.block.now c.args.entries.now c.args.store.now c.post_items.new.store c.watch_guards.new.store c.follow_all-followed.new.store
    c.is_sound.ensures c.is_sound-2.ensures c.is_sound-3.ensures c.requires.block c.requires.readable c.in_ok-post_items.ensures.only c.in_ok-post_items.ensures.posted
    c.in_ok-watch_guards.ensures.only c.in_ok-watch_guards.ensures.watched c.requires.states.0 c.requires.states.1
    c.follow_all-followed.result c.follow_all-followed.ensures.adds

pub returns-clause-marks : goal.returns-clause-marks
returns-clause-marks c =
    marks_both _ _ _ (marks_both _ _ _ c.in_ok-post_items.ensures.marks c.in_ok-watch_guards.ensures.marks) c.follow_all-followed.ensures.marks
