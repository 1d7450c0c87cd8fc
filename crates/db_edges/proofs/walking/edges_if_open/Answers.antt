use Rattle.std.proofs.Common.{inl, inr, refl}
use Rattle.std.proofs.lemmas.Result.{on_ok_weaker}
use Rattle.db_refusals.specs.Seeing.{seen_state}
use Rattle.db_edges.specs.Whole.{HasSortEdges, HasOpenEdges, TokenItem}
use Rattle.db_edges.proofs.Appending.{adds_none, adds_so}
use Rattle.db_edges.proofs.Going.{item_short}
use Rattle.db_edges.proofs.walking.edges_if_open.Goals as goal

pub is_open-requires-clause-named : goal.is_open-requires-clause-named
is_open-requires-clause-named c = c.requires.stands.1.named

pub is_open-requires-clause-of_rule : goal.is_open-requires-clause-of_rule
is_open-requires-clause-of_rule c = c.requires.stands.1.of_rule

pub edges_of_item-requires : goal.edges_of_item-requires
edges_of_item-requires c =
    item_short c.args.walk.model.now c.requires.lawful c.args.walk.store.now c.args.walk.token.now c.args.rule c.args.block.now c.args.place c.args.item.now c.requires.stands

pub returns-then-is_open : goal.returns-then-is_open
returns-then-is_open c =
    let each : TokenItem = record { rule = c.args.rule; placed = record { path = c.args.block.now.path; place = c.args.place; item = c.args.item.now } } in
    on_ok_weaker c.edges_of_item.result
    (adds_so (HasSortEdges c.args.walk.sort c.args.walk.model.now c.args.walk.decisions.now c.args.walk.token.now c.args.rule c.args.item.now)
    (HasOpenEdges c.args.walk.sort c.args.walk.model.now c.args.walk.decisions.now (seen_state c.args.walk.store.now) c.args.walk.token.now each)
    c.args.edges.now.items c.edges_of_item.new.edges.items (λ more has. inl (c.if-is_open.ensures, has)))
    c.edges_of_item.ensures

pub returns-else-is_open : goal.returns-else-is_open
returns-else-is_open c =
    let each : TokenItem = record { rule = c.args.rule; placed = record { path = c.args.block.now.path; place = c.args.place; item = c.args.item.now } } in
    adds_none (HasOpenEdges c.args.walk.sort c.args.walk.model.now c.args.walk.decisions.now (seen_state c.args.walk.store.now) c.args.walk.token.now each)
    c.args.edges.now.items (inr (c.if-is_open.ensures, refl))
