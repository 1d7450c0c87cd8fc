use Rattle.std.proofs.Common.{List, subst}
use Rattle.model_core.specs.declared.item.Item.{Item}
use Rattle.plan_defs.specs.Terms.{InProblem}
use Rattle.db_posting.proofs.Storing.{only_both, marks_both}
use Rattle.db_decide.specs.RootItems.{SaysOfRoot, PostsSaid}
use Rattle.db_decide.proofs.Saying.{SaidOf, said_more, said_of_all, roots_kept, item_at_can}
use Rattle.db_decide.proofs.begun.post_in_problem.Goals as goal

pub post_of_root-requires-clause-roots : goal.post_of_root-requires-clause-roots
post_of_root-requires-clause-roots c = roots_kept c.args.model.now c.args.store.now c.loop-item.store c.loop-item.invariant.only c.requires.roots

pub post_of_root-requires-clause-postable : goal.post_of_root-requires-clause-postable
post_of_root-requires-clause-postable c =
    (item_at_can c.args.model.now c.args.store.now c.loop-item.store c.loop-item.invariant.only c.requires.lawful c.requires.tables c.requires.content c.requires.roots
    c.loop-item.item-index c.item-item.result c.as_slice-items.result.now c.as_slice-items.ensures c.loop-item-test.true c.item-item.is).0

pub post_of_root-requires-clause-there : goal.post_of_root-requires-clause-there
post_of_root-requires-clause-there c =
    (item_at_can c.args.model.now c.args.store.now c.loop-item.store c.loop-item.invariant.only c.requires.lawful c.requires.tables c.requires.content c.requires.roots
    c.loop-item.item-index c.item-item.result c.as_slice-items.result.now c.as_slice-items.ensures c.loop-item-test.true c.item-item.is).1

pub loop-item-preserved : goal.loop-item-preserved
loop-item-preserved c =
    let model = c.args.model.now in
    let old = c.args.store.now in
    let loop = c.loop-item in
    let new = c.post_of_root.new.store in
    let step = c.in_ok-post_of_root.ensures in
    record {
      posted = said_more model (λ decisions. SaysOfRoot model decisions c.args.root InProblem) c.as_slice-items.result.now loop.item-index c.item-item.result c.loop-item-test.true c.item-item.is
          old loop.store new loop.invariant.only loop.invariant.posted step.posted;
      only = only_both old loop.store new loop.invariant.only step.only;
      marks = marks_both old loop.store new loop.invariant.marks step.marks;
    }

pub returns-clause-posted : goal.returns-clause-posted
returns-clause-posted c =
    let model = c.args.model.now in
    let old = c.args.store.now in
    subst (λ (items : List Item). PostsSaid model (SaidOf model (λ decisions. SaysOfRoot model decisions c.args.root InProblem) items) old c.loop-item.store) c.as_slice-items.ensures
    (said_of_all model (λ decisions. SaysOfRoot model decisions c.args.root InProblem) c.as_slice-items.result.now c.loop-item.item-index
    c.loop-item-test.false old c.loop-item.store c.loop-item.invariant.posted)
