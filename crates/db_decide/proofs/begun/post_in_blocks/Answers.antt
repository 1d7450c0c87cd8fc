use Rattle.std.proofs.Common.{◌≡◌, ℕ, ◌+◌, length, refl, ap, subst, arith}
use Rattle.db_store.specs.Stores.{Stored}
use Rattle.db_posting.specs.Origins.{content_now}
use Rattle.db_posting.proofs.Storing.{only_both, marks_both, marks_same}
use Rattle.db_decide.specs.RootItems.{SaysInBlocks, PostsSaid}
use Rattle.db_decide.proofs.Saying.{said_in_none, said_in_more, can_kept, can_fewer}
use Rattle.db_decide.proofs.begun.post_in_blocks.Goals as goal

pub loop-number-init : goal.loop-number-init
loop-number-init c = record {
  posted = said_in_none c.args.model.now c.args.root (content_now c.args.store.now) c.args.store.now;
  only = refl;
  marks = marks_same _;
}

pub post_in_block-requires-clause-number : goal.post_in_block-requires-clause-number
post_in_block-requires-clause-number c =
    let same : length c.loop-number.store.blocks ≡ length c.args.store.now.blocks = ap (λ (s : Stored). length s.blocks) c.loop-number.invariant.only in
    omega (arith, same, c.requires.within, c.loop-number-test.true)

pub post_in_block-requires-clause-can : goal.post_in_block-requires-clause-can
post_in_block-requires-clause-can c =
    let old = c.args.store.now in
    can_kept c.args.model.now (c.loop-number.number + 1) old c.loop-number.store c.loop-number.invariant.only
    (can_fewer c.args.model.now old.net.tables (content_now old) c.args.unfolded (c.loop-number.number + 1) (omega (arith, c.loop-number-test.true)) c.requires.can)

pub loop-number-preserved : goal.loop-number-preserved
loop-number-preserved c =
    let model = c.args.model.now in
    let old = c.args.store.now in
    let loop = c.loop-number in
    let new = c.post_in_block.new.store in
    let step = c.in_ok-post_in_block.ensures in
    record {
      posted = said_in_more model c.args.root loop.number old loop.store new loop.invariant.only loop.invariant.posted step.posted;
      only = only_both old loop.store new loop.invariant.only step.only;
      marks = marks_both old loop.store new loop.invariant.marks step.marks;
    }

pub returns-clause-posted : goal.returns-clause-posted
returns-clause-posted c =
    let last : c.loop-number.number ≡ c.args.unfolded = omega (arith, c.loop-number-test.false) in
    subst (λ (n : ℕ). PostsSaid c.args.model.now (λ decisions. SaysInBlocks c.args.model.now decisions c.args.root (content_now c.args.store.now) n) c.args.store.now c.loop-number.store) last
    c.loop-number.invariant.posted
