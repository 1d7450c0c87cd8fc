use Rattle.std.proofs.Common.{arith}
use Rattle.std.proofs.lemmas.List.{length-map}
use Rattle.eu_name.specs.declared.name.TokenName.{TokenName}
use Rattle.token_store.specs.Tokens.{tokens_now, token_states}
use Rattle.token_store.specs.declared.trail.Token.{Token}
use Rattle.eu_name.proofs.Members.{get_within}
use Rattle.db_refusals.proofs.Full.{count_more, count_all}
use Rattle.db_refusals.proofs.tokens.count_active.Goals as goal

pub loop-place-preserved : goal.loop-place-preserved
loop-place-preserved c =
    let tokens = tokens_now c.args.tokens.now in
    let long = length-map tokens (λ (token : TokenName × Token). token.1.state) in
    let at = get_within (token_states tokens) c.loop-place.place (omega (arith, long, c.count-count.ensures, c.loop-place-test.true)) in (
      count_more tokens c.loop-place.place c.loop-place.active c.active_at-active.result at.0 at.1 c.loop-place.invariant.0 (c.active_at-active.ensures.counted at.0 at.1),
      omega (arith, c.loop-place.invariant.1, c.active_at-active.ensures.small),
    )

pub returns : goal.returns
returns c =
    let tokens = tokens_now c.args.tokens.now in
    let long = length-map tokens (λ (token : TokenName × Token). token.1.state) in
    count_all tokens c.loop-place.place c.loop-place.active c.loop-place.invariant.0 (omega (arith, long, c.count-count.ensures, c.loop-place-test.false))
