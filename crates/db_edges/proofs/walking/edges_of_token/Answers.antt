use Rattle.std.proofs.Common.{[], refl, arith}
use Rattle.db_refusals.specs.Seeing.{seen_state}
use Rattle.db_edges.specs.Edges.{AppendsEach}
use Rattle.db_edges.specs.Whole.{HasOpenEdges, HasTokenEdges, items_of_rules}
use Rattle.db_edges.proofs.Appending.{adds_none, adds_so}
use Rattle.db_edges.proofs.Going.{has_rules, few_rules, no_more_rules, rules_next, rules_all}
use Rattle.db_edges.proofs.walking.edges_of_token.Goals as goal

pub loop-number-init : goal.loop-number-init
loop-number-init c = λ rules are.
    adds_none (AppendsEach (HasOpenEdges c.args.walk.sort c.args.walk.model.now c.args.walk.decisions.now (seen_state c.args.walk.store.now) c.args.walk.token.now) (items_of_rules 0 []))
    c.args.edges.now.items refl

pub returns-in_default : goal.returns-in_default
returns-in_default c =
    let model = c.args.walk.model.now in
    let token = c.args.walk.token.now in
    let has = HasOpenEdges c.args.walk.sort model c.args.walk.decisions.now (seen_state c.args.walk.store.now) token in
    let have = has_rules model c.requires.lawful token c.requires.there.0 c.requires.there.1 in
    let loop = c.loop-number in
    adds_so (AppendsEach has (items_of_rules 0 have.0)) (HasTokenEdges c.args.walk.sort model c.args.walk.decisions.now (seen_state c.args.walk.store.now) token)
    c.args.edges.now.items loop.edges.items (λ more is. (have.0, have.1, is))
    (rules_all has have.0 c.args.edges.now.items loop.number loop.edges.items (no_more_rules model c.requires.lawful token have.0 loop.number have.1 c.in_default.ensures) (loop.invariant have.0 have.1))

pub loop-number-preserved : goal.loop-number-preserved
loop-number-preserved c = λ rules are.
    let has = HasOpenEdges c.args.walk.sort c.args.walk.model.now c.args.walk.decisions.now (seen_state c.args.walk.store.now) c.args.walk.token.now in
    let loop = c.loop-number in
    rules_next has rules c.args.edges.now.items loop.number c.in-Some.rule.now loop.edges.items c.edges_of_rule.new.edges.items
    ((are loop.number c.in-Some.rule.now).0 c.in-Some.ensures) (loop.invariant rules are) c.in_ok-edges_of_rule.ensures

pub returns : goal.returns
returns c =
    let model = c.args.walk.model.now in
    let token = c.args.walk.token.now in
    let has = HasOpenEdges c.args.walk.sort model c.args.walk.decisions.now (seen_state c.args.walk.store.now) token in
    let have = has_rules model c.requires.lawful token c.requires.there.0 c.requires.there.1 in
    let loop = c.loop-number in
    adds_so (AppendsEach has (items_of_rules 0 have.0)) (HasTokenEdges c.args.walk.sort model c.args.walk.decisions.now (seen_state c.args.walk.store.now) token)
    c.args.edges.now.items loop.edges.items (λ more is. (have.0, have.1, is))
    (rules_all has have.0 c.args.edges.now.items loop.number loop.edges.items
    (let few = few_rules model c.requires.lawful token have.0 have.1 in omega (arith, few, c.loop-number-test.false)) (loop.invariant have.0 have.1))
