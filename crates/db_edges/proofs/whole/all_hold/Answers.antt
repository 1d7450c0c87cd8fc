use Rattle.std.proofs.Common.{List, sym, subst}
use Rattle.std.specs.Prelude.{All}
use Rattle.std.proofs.lemmas.Result.{on_ok_weaker}
use Rattle.model_core.specs.declared.item.Item.{Item}
use Rattle.plan_defs.specs.Terms.{InProblem}
use Rattle.db_store.specs.Stores.{Stored}
use Rattle.db_refusals.specs.Seeing.{seen_state}
use Rattle.db_edges.specs.Adding.{AddsEdges, HaveDurations}
use Rattle.db_edges.specs.Edges.{AppendsEach, HasLastingEdges, HasTimesGiven, HasConstraintEdges}
use Rattle.db_edges.specs.Sites.{HasShortSlots}
use Rattle.db_edges.proofs.Going.{problem_short}
use Rattle.db_edges.proofs.Joining.{all_joined}
use Rattle.db_edges.proofs.whole.all_hold.Goals as goal

pub tokens_last-requires-clause-have : goal.tokens_last-requires-clause-have
tokens_last-requires-clause-have c = subst (λ (stored : Stored). HaveDurations (seen_state stored)) (sym c.requires.same) c.requires.have

pub problem_constrains-requires : goal.problem_constrains-requires
problem_constrains-requires c =
    subst (λ (items : List Item). All HasShortSlots items) (sym c.as_slice.ensures) (problem_short c.args.model.now c.requires.lawful)

pub returns : goal.returns
returns c =
    let model = c.args.model.now in
    let decisions = c.args.decisions.now in
    let state = seen_state c.args.store.now in
    let one = c.tokens_last.new.edges.items in
    let two = c.times_are_given.new.edges.items in
    let three = c.blocks_hold.new.edges.items in
    let four = c.problem_constrains.new.edges.items in
    let lasting = subst (λ (stored : Stored). AddsEdges (AppendsEach (HasLastingEdges model (seen_state stored) decisions) (seen_state stored).tokens) c.args.edges.now.items one)
    c.requires.same c.in_ok-tokens_last.ensures in
    let given = subst (λ (stored : Stored). AddsEdges (AppendsEach (HasTimesGiven model decisions) (seen_state stored).tokens) one two) c.requires.same c.in_ok-times_are_given.ensures in
    let problem = subst (λ (items : List Item). AddsEdges (AppendsEach (HasConstraintEdges model decisions InProblem) items) three four) c.as_slice.ensures c.in_ok-problem_constrains.ensures in
    on_ok_weaker c.postings_hold.result
    (all_joined model decisions state c.args.edges.now.items one two three four c.blocks_hold-2.new.edges.items c.orders_hold.new.edges.items
    c.postings_hold.new.edges.items lasting given c.in_ok-blocks_hold.ensures problem c.in_ok-blocks_hold-2.ensures c.in_ok-orders_hold.ensures)
    c.postings_hold.ensures
