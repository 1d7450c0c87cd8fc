use Rattle.model_core.specs.declared.view.TokenState.TheVariants.{Rejected}
use Rattle.token_store.specs.Tokens.{tokens_now}
use Rattle.db_resources.proofs.Looping.{kept_same, kept_alike, kept_nowhere}
use Rattle.db_resources.proofs.complete.is_kept_rejected.Goals as goal

pub returns-in_default : goal.returns-in_default
returns-in_default c = λ kept.
    c.in_default.not-Rejected (kept_same (tokens_now c.args.store.now.past) c.is_sound.ensures.tokens_once c.args.token.now c.in-Some.state Rejected
    (kept_alike c.tokens.ensures c.args.token.now c.in-Some.state c.in-Some.ensures) kept)

pub returns-in-None : goal.returns-in-None
returns-in-None c = λ kept. c.in-None.ensures (kept_nowhere c.tokens.ensures c.args.token.now Rejected kept)
