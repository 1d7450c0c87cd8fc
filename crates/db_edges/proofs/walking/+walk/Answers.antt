use Rattle.std.proofs.Common.{ap, ◌∙◌, subst, arith}
use Rattle.std.proofs.lemmas.Result.{on_ok_weaker}
use Rattle.model_core.specs.declared.rule.Side.TheVariants.{Then, Otherwise}
use Rattle.model_core.specs.Block.{plain_entries}
use Rattle.db_store.specs.declared.key.OpenBlock.{OpenBlock}
use Rattle.plan_values.specs.Walks.{items_of}
use Rattle.db_refusals.specs.Seeing.{seen_state}
use Rattle.db_edges.specs.Walking.{IsEntryOfRule}
use Rattle.db_edges.specs.Whole.{HasOpenEdges}
use Rattle.db_edges.proofs.Falling.{entry_within, side_within}
use Rattle.db_edges.proofs.Going.{entry_of_rule, side_of_rule, few_stand, gone_nowhere, gone_on, gone_through, adds_nothing, adds_item, adds_sides}
use Rattle.db_edges.proofs.walking.+walk.Goals as goal

pub edges_among-loop-place-init : goal.edges_among-loop-place-init
edges_among-loop-place-init t c =
    gone_nowhere (HasOpenEdges c.args.walk.sort c.args.walk.model.now c.args.walk.decisions.now (seen_state c.args.walk.store.now) c.args.walk.token.now) c.args.rule c.args.block.now.path
    c.args.entries.now c.args.edges.now.items

pub edges_among-edges_inside-requires : goal.edges_among-edges_inside-requires
edges_among-edges_inside-requires t c =
    let within = entry_within c.args.entries.now c.loop-place.place c.index-entries-place.result c.loop-place-test.true c.index-entries-place.is in (
      omega (arith, within, c.decreases),
      (
        c.requires.lawful,
        entry_of_rule c.args.walk.model.now c.requires.lawful c.args.walk.store.now c.args.walk.token.now c.args.rule c.args.block.now c.args.entries.now c.loop-place.place
            c.index-entries-place.result c.loop-place-test.true c.index-entries-place.is c.requires.stand,
      ),
    )

pub edges_among-loop-place-preserved : goal.edges_among-loop-place-preserved
edges_among-loop-place-preserved t c =
    gone_on (HasOpenEdges c.args.walk.sort c.args.walk.model.now c.args.walk.decisions.now (seen_state c.args.walk.store.now) c.args.walk.token.now) c.args.rule c.args.block.now.path
    c.args.entries.now c.args.edges.now.items c.loop-place.place c.index-entries-place.result c.loop-place.edges.items c.edges_inside.new.edges.items c.loop-place-test.true c.index-entries-place.is
    c.loop-place.invariant c.in_ok-edges_inside.ensures

pub edges_among-returns : goal.edges_among-returns
edges_among-returns t c =
    gone_through (HasOpenEdges c.args.walk.sort c.args.walk.model.now c.args.walk.decisions.now (seen_state c.args.walk.store.now) c.args.walk.token.now) c.args.rule c.args.block.now.path
    c.args.entries.now c.args.edges.now.items c.loop-place.place c.loop-place.edges.items c.loop-place-test.false c.loop-place.invariant

pub edges_inside-returns-in-Slot : goal.edges_inside-returns-in-Slot
edges_inside-returns-in-Slot t c =
    adds_nothing (HasOpenEdges c.args.walk.sort c.args.walk.model.now c.args.walk.decisions.now (seen_state c.args.walk.store.now) c.args.walk.token.now) c.args.rule c.args.block.now.path
    c.args.place c.args.entry.now c.args.edges.now.items (ap (items_of c.args.block.now.path c.args.place) c.in-Slot.is)

pub edges_inside-returns-in-Local : goal.edges_inside-returns-in-Local
edges_inside-returns-in-Local t c =
    adds_nothing (HasOpenEdges c.args.walk.sort c.args.walk.model.now c.args.walk.decisions.now (seen_state c.args.walk.store.now) c.args.walk.token.now) c.args.rule c.args.block.now.path
    c.args.place c.args.entry.now c.args.edges.now.items (ap (items_of c.args.block.now.path c.args.place) c.in-Local.is)

pub edges_inside-edges_if_open-requires-clause-stands : goal.edges_inside-edges_if_open-requires-clause-stands
edges_inside-edges_if_open-requires-clause-stands t c =
    subst (IsEntryOfRule c.args.walk.model.now c.args.walk.store.now c.args.walk.token.now c.args.rule c.args.block.now c.args.place) c.in-Item.is c.requires.stands

pub edges_inside-returns-in-Item : goal.edges_inside-returns-in-Item
edges_inside-returns-in-Item t c =
    on_ok_weaker c.edges_if_open.result
    (adds_item (HasOpenEdges c.args.walk.sort c.args.walk.model.now c.args.walk.decisions.now (seen_state c.args.walk.store.now) c.args.walk.token.now) c.args.rule c.args.block.now.path
    c.args.place c.args.entry.now c.in-Item.item c.args.edges.now.items c.edges_if_open.new.edges.items c.in-Item.is)
    c.edges_if_open.ensures

pub edges_inside-edges_among-requires : goal.edges_inside-edges_among-requires
edges_inside-edges_among-requires t c =
    let same = ap plain_entries c.as_slice-inside.ensures.value ∙ c.then.view_is in
    let within = side_within c.in-Branch.guard c.in-Branch.then c.in-Branch.otherwise Then c.args.entry.now c.as_slice-inside.result.now c.in-Branch.is same in
    let branch = subst (IsEntryOfRule c.args.walk.model.now c.args.walk.store.now c.args.walk.token.now c.args.rule c.args.block.now c.args.place) c.in-Branch.is c.requires.stands in
    let stand = side_of_rule c.args.walk.model.now c.requires.lawful c.args.walk.store.now c.args.walk.token.now c.args.rule c.args.block.now c.args.place c.in-Branch.guard c.in-Branch.then c.in-Branch.otherwise Then
    c.in_ok-left-in-Branch.left (plain_entries c.as_slice-inside.result.now) branch c.in_ok-left-in-Branch.ensures same in (
      omega (arith, within, c.decreases),
      (c.requires.lawful, (stand, few_stand c.args.walk.model.now c.requires.lawful c.args.walk.store.now c.args.walk.token.now c.args.rule c.in_ok-left-in-Branch.left c.as_slice-inside.result.now stand)),
    )

pub edges_inside-edges_among-requires-in-Branch : goal.edges_inside-edges_among-requires-in-Branch
edges_inside-edges_among-requires-in-Branch t c =
    let same = ap plain_entries c.as_slice-others.ensures.value ∙ c.otherwise.view_is in
    let within = side_within c.in-Branch.guard c.in-Branch.then c.in-Branch.otherwise Otherwise c.args.entry.now c.as_slice-others.result.now c.in-Branch.is same in
    let branch = subst (IsEntryOfRule c.args.walk.model.now c.args.walk.store.now c.args.walk.token.now c.args.rule c.args.block.now c.args.place) c.in-Branch.is c.requires.stands in
    let stand = side_of_rule c.args.walk.model.now c.requires.lawful c.args.walk.store.now c.args.walk.token.now c.args.rule c.args.block.now c.args.place c.in-Branch.guard c.in-Branch.then c.in-Branch.otherwise Otherwise
    c.in_ok-right-in-Branch.right (plain_entries c.as_slice-others.result.now) branch c.in_ok-right-in-Branch.ensures same in (
      omega (arith, within, c.decreases),
      (c.requires.lawful, (stand, few_stand c.args.walk.model.now c.requires.lawful c.args.walk.store.now c.args.walk.token.now c.args.rule c.in_ok-right-in-Branch.right c.as_slice-others.result.now stand)),
    )

pub edges_inside-returns-in_ok-right-in-Branch : goal.edges_inside-returns-in_ok-right-in-Branch
edges_inside-returns-in_ok-right-in-Branch t c =
    on_ok_weaker c.edges_among-in-Branch.result
    (adds_sides (HasOpenEdges c.args.walk.sort c.args.walk.model.now c.args.walk.decisions.now (seen_state c.args.walk.store.now) c.args.walk.token.now) c.args.rule c.args.block.now.path
    c.in_ok-left-in-Branch.left.path c.in_ok-right-in-Branch.right.path c.args.place c.args.entry.now c.in-Branch.guard c.in-Branch.then c.in-Branch.otherwise
    (plain_entries c.as_slice-inside.result.now) (plain_entries c.as_slice-others.result.now)
    c.args.edges.now.items c.edges_among.new.edges.items c.edges_among-in-Branch.new.edges.items c.in-Branch.is
    (ap plain_entries c.as_slice-inside.ensures.value ∙ c.then.view_is) (ap plain_entries c.as_slice-others.ensures.value ∙ c.otherwise.view_is)
    (ap (λ (b : OpenBlock). b.path) c.in_ok-left-in-Branch.ensures) (ap (λ (b : OpenBlock). b.path) c.in_ok-right-in-Branch.ensures) c.in_ok-edges_among-in-Branch.ensures)
    c.edges_among-in-Branch.ensures
