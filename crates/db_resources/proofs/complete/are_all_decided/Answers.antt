use Rattle.std.proofs.Common.{◌≡◌, Some, arith}
use Rattle.std.specs.Prelude.{slice_get}
use Rattle.std.proofs.lemmas.List.{length-map}
use Rattle.eu_name.specs.declared.name.TokenName.{TokenName}
use Rattle.model_core.specs.declared.view.TokenState.TheVariants.{Inactive}
use Rattle.eu_name.proofs.Members.{get_below}
use Rattle.token_store.specs.Tokens.{tokens_now, token_states}
use Rattle.token_store.specs.declared.trail.Token.{Token}
use Rattle.db_refusals.proofs.Told.{isnt, is_so}
use Rattle.eu_name.proofs.Places.{up_to}
use Rattle.db_resources.proofs.complete.are_all_decided.Goals as goal

pub loop-place-preserved : goal.loop-place-preserved
loop-place-preserved c =
    up_to (λ n. slice_get (token_states (tokens_now c.args.tokens.now)) n ≡ Some Inactive → ⊥) c.loop-place.place c.loop-place.invariant (isnt c.if-is_inactive.ensures)

pub returns-then-is_inactive : goal.returns-then-is_inactive
returns-then-is_inactive c = λ all. all c.loop-place.place (is_so c.if-is_inactive.ensures)

pub returns : goal.returns
returns c = λ place at.
    let tokens = tokens_now c.args.tokens.now in
    let long = length-map tokens (λ (token : TokenName × Token). token.1.state) in
    let below = get_below (token_states tokens) place Inactive at in
    c.loop-place.invariant place (omega (arith, long, below, c.count-count.ensures, c.loop-place-test.false)) at
