use Rattle.std.proofs.Common.{◌≡◌, Some, sym, subst, arith, length}
use Rattle.std.specs.Prelude.{slice_get}
use Rattle.std.proofs.lemmas.List.Elements.{All-contains}
use Rattle.eu_name.specs.declared.name.TokenName.{TokenName}
use Rattle.model_core.specs.declared.rule.Slot.{Slot}
use Rattle.model_core.specs.Tokens.{HasToken}
use Rattle.eu_name.proofs.Members.{contains_from_get}
use Rattle.db_store.specs.Stores.{Stored}
use Rattle.db_refusals.specs.Seeing.{seen_state}
use Rattle.db_edges.specs.Whole.{HasTokenEdges}
use Rattle.db_edges.proofs.Appending.{appends_none, appends_next, appends_all}
use Rattle.db_edges.proofs.whole.blocks_hold.Goals as goal

pub loop-place-init : goal.loop-place-init
loop-place-init c = appends_none (HasTokenEdges c.args.sort c.args.model.now c.args.decisions.now (seen_state c.args.store.now)) (seen_state c.args.store.now).tokens c.args.edges.now.items

pub token_holds-requires-clause-has : goal.token_holds-requires-clause-has
token_holds-requires-clause-has c =
    let tokens = (seen_state c.args.store.now).tokens in
    let at : slice_get tokens c.loop-place.place ≡ Some c.in-Some.token.now =
    subst (λ (stored : Stored). slice_get (seen_state stored).tokens c.loop-place.place ≡ Some c.in-Some.token.now) c.requires.same (sym c.in-Some.ensures) in
    All-contains (λ (token : TokenName). (slot : Slot) × HasToken c.args.model.now token slot) tokens c.in-Some.token.now c.requires.tokens
    (contains_from_get tokens c.loop-place.place c.in-Some.token.now at)

pub token_holds-requires-clause-there : goal.token_holds-requires-clause-there
token_holds-requires-clause-there c =
    let tokens = (seen_state c.args.store.now).tokens in
    contains_from_get tokens c.loop-place.place c.in-Some.token.now
    (subst (λ (stored : Stored). slice_get (seen_state stored).tokens c.loop-place.place ≡ Some c.in-Some.token.now) c.requires.same (sym c.in-Some.ensures))

pub loop-place-preserved : goal.loop-place-preserved
loop-place-preserved c =
    let tokens = (seen_state c.args.store.now).tokens in
    appends_next (HasTokenEdges c.args.sort c.args.model.now c.args.decisions.now (seen_state c.args.store.now)) tokens c.args.edges.now.items c.loop-place.edges.items c.token_holds.new.edges.items
    c.loop-place.place c.in-Some.token.now
    (subst (λ (stored : Stored). slice_get (seen_state stored).tokens c.loop-place.place ≡ Some c.in-Some.token.now) c.requires.same (sym c.in-Some.ensures))
    c.loop-place.invariant c.in_ok-token_holds-in-Some.ensures

pub returns : goal.returns
returns c =
    let tokens = (seen_state c.args.store.now).tokens in
    let count : c.count-count.result ≡ length tokens =
    subst (λ (stored : Stored). c.count-count.result ≡ length (seen_state stored).tokens) c.requires.same c.count-count.ensures in
    appends_all (HasTokenEdges c.args.sort c.args.model.now c.args.decisions.now (seen_state c.args.store.now)) tokens c.args.edges.now.items c.loop-place.edges.items c.loop-place.place
    (omega (arith, count, c.loop-place-test.false)) c.loop-place.invariant
