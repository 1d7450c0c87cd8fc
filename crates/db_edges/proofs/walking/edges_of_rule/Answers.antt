use Rattle.std.proofs.Common.{◌≡◌, [], List, ap, ◌∙◌, subst}
use Rattle.std.specs.Prelude.{OnOk}
use Rattle.model_core.specs.Block.{plain_entries}
use Rattle.model_core.specs.Numbers.{PlacedItem, items_from, rule_items}
use Rattle.db_store.specs.declared.key.OpenBlock.{OpenBlock}
use Rattle.db_refusals.specs.Seeing.{seen_state}
use Rattle.db_edges.specs.Adding.{AddsEdges}
use Rattle.db_edges.specs.Edges.{AppendsEach}
use Rattle.db_edges.specs.Walking.{of_rule}
use Rattle.db_edges.specs.Whole.{HasOpenEdges}
use Rattle.db_edges.proofs.Going.{top_of_rule, few_stand}
use Rattle.db_edges.proofs.walking.edges_of_rule.Goals as goal

pub edges_among-requires-clause-stand : goal.edges_among-requires-clause-stand
edges_among-requires-clause-stand c =
    top_of_rule c.args.walk.model.now c.requires.lawful c.args.walk.store.now c.args.walk.token.now c.args.number c.args.place c.args.rule.now c.top_of-top.result
    (plain_entries c.contents.result.now) c.requires.named c.requires.has c.top_of-top.ensures c.contents.ensures

pub edges_among-requires-clause-few : goal.edges_among-requires-clause-few
edges_among-requires-clause-few c =
    few_stand c.args.walk.model.now c.requires.lawful c.args.walk.store.now c.args.walk.token.now c.args.number c.top_of-top.result c.contents.result.now
    (top_of_rule c.args.walk.model.now c.requires.lawful c.args.walk.store.now c.args.walk.token.now c.args.number c.args.place c.args.rule.now c.top_of-top.result
    (plain_entries c.contents.result.now) c.requires.named c.requires.has c.top_of-top.ensures c.contents.ensures)

pub returns : goal.returns
returns c =
    let has = HasOpenEdges c.args.walk.sort c.args.walk.model.now c.args.walk.decisions.now (seen_state c.args.walk.store.now) c.args.walk.token.now in
    let same : items_from c.top_of-top.result.path 0 (plain_entries c.contents.result.now) ≡ rule_items c.args.rule.now =
    ap (λ (b : OpenBlock). items_from b.path 0 (plain_entries c.contents.result.now)) c.top_of-top.ensures ∙ ap (items_from [] 0) c.contents.ensures in
    subst (λ (l : List PlacedItem). OnOk c.edges_among.result (AddsEdges (AppendsEach has (of_rule c.args.number l)) c.args.edges.now.items c.edges_among.new.edges.items)) same
    c.edges_among.ensures
