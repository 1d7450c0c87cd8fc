use Rattle.std.proofs.Common.{List, take}
use Rattle.model_core.specs.declared.rule.Rule.{Rule}
use Rattle.db_refusals.specs.Seeing.{seen_state}
use Rattle.db_edges.specs.Adding.{AddsEdges}
use Rattle.db_edges.specs.Edges.{AppendsEach}
use Rattle.db_edges.specs.Whole.{AreRulesOf, HasOpenEdges, items_of_rules}
use Rattle.db_edges.proofs.walking.edges_of_token.Given as goal

abbrev pub invariant-loop-number : goal.invariant-loop-number
invariant-loop-number l = (rules : List Rule) → AreRulesOf l.walk.model.now l.walk.token.now rules
    → AddsEdges (AppendsEach (HasOpenEdges l.walk.sort l.walk.model.now l.walk.decisions.now (seen_state l.walk.store.now) l.walk.token.now)
    (items_of_rules 0 (take l.number rules))) l.fn.edges.items l.edges.items
