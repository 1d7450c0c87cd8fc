use Rattle.std.proofs.Common.{◌≡◌, ◌<◌, List, [], ◌∷◌, ◌++◌, length, take, get_or, sym, subst}
use Rattle.std.specs.Prelude.{Contains}
use Rattle.std.proofs.lemmas.List.{take_more, take_all}
use Rattle.std.proofs.lemmas.List.Elements.{Contains-get_or}
use Rattle.model_core.specs.declared.item.Item.{Item}
use Rattle.plan_defs.specs.Terms.{InProblem}
use Rattle.db_posting.specs.Origins.{content_now}
use Rattle.db_posting.specs.Postable.{CanPostItem, IsItemNamed}
use Rattle.db_posting.proofs.Storing.{only_both}
use Rattle.db_opening.specs.Beginning.{AreItemsSaid}
use Rattle.db_opening.proofs.Beginning.{roots_stay, tables_stay, item_begun, items_more, item_postable, item_named}
use Rattle.db_opening.proofs.problem.post_problem.Goals as goal

pub post_what_counts-requires-clause-postable : goal.post_what_counts-requires-clause-postable
post_what_counts-requires-clause-postable c =
    let model = c.args.model.now in
    let items = c.as_slice-items.ensures in
    let loop = c.loop-item in
    let item = c.item-item.result in
    let below : loop.item-index < length model.problem.items = subst (λ list. loop.item-index < length list) items c.loop-item-test.true in
    let here : item ≡ get_or model.problem.items loop.item-index item = subst (λ list. item ≡ get_or list loop.item-index item) items c.item-item.is in
    subst (CanPostItem loop.store.net.tables InProblem) (sym here)
    (item_postable model c.requires.lawful loop.item-index item below loop.store.net.tables (tables_stay model c.args.store.now loop.store loop.invariant.only c.requires.tables))

pub post_what_counts-requires-clause-there : goal.post_what_counts-requires-clause-there
post_what_counts-requires-clause-there c =
    let model = c.args.model.now in
    let items = c.as_slice-items.ensures in
    let loop = c.loop-item in
    let item = c.item-item.result in
    let below : loop.item-index < length model.problem.items = subst (λ list. loop.item-index < length list) items c.loop-item-test.true in
    let here : item ≡ get_or model.problem.items loop.item-index item = subst (λ list. item ≡ get_or list loop.item-index item) items c.item-item.is in
    subst (IsItemNamed (content_now loop.store) InProblem) (sym here)
    (item_named model c.requires.lawful loop.item-index item below loop.store loop.invariant.begun (roots_stay model c.args.store.now loop.store loop.invariant.only c.requires.roots))

pub loop-item-preserved : goal.loop-item-preserved
loop-item-preserved c =
    let model = c.args.model.now in
    let list = c.as_slice-items.result.now in
    let loop = c.loop-item in
    let item = c.item-item.result in
    let new = c.post_what_counts.new.store in
    let step = c.in_ok-post_what_counts.ensures in
    let posts = step.posted [] loop.invariant.begun.states in
    let stands : Contains model.problem.items item =
    subst (λ (all : List Item). Contains all item) c.as_slice-items.ensures
    (subst (Contains list) (sym c.item-item.is) (Contains-get_or list loop.item-index item c.loop-item-test.true)) in
    let said : AreItemsSaid model (take loop.item-index list ++ item ∷ []) new = items_more model item loop.store new step.only posts (take loop.item-index list) loop.invariant.said in
    record {
      begun = item_begun model item loop.store new step.only posts stands loop.invariant.begun;
      said = subst (λ (first : List Item). AreItemsSaid model first new) (sym (take_more list loop.item-index item c.loop-item-test.true))
          (subst (λ (one : Item). AreItemsSaid model (take loop.item-index list ++ one ∷ []) new) c.item-item.is said);
      only = only_both c.args.store.now loop.store new loop.invariant.only step.only;
    }

pub returns-clause-said : goal.returns-clause-said
returns-clause-said c =
    subst (λ (all : List Item). AreItemsSaid c.args.model.now all c.loop-item.store) c.as_slice-items.ensures
    (subst (λ (first : List Item). AreItemsSaid c.args.model.now first c.loop-item.store) (take_all c.loop-item.item-index c.as_slice-items.result.now c.loop-item-test.false)
    c.loop-item.invariant.said)
