use Rattle.std.proofs.Common.{Some, sym, subst}
use Rattle.db_store.specs.Stores.{snapshot_of}
use Rattle.token_store.specs.Tokens.{TokenPast, tokens_now}
use Rattle.db_refusals.specs.Judging.{FindsUndecided}
use Rattle.db_refusals.proofs.Undecided.{reject_refused}
use Rattle.db_refusals.proofs.judge.against_reject.Goals as goal

pub returns-in-Some : goal.returns-in-Some
returns-in-Some c = λ decisions told.
    reject_refused c.args.model.now decisions (snapshot_of c.args.store.now) c.args.token.now c.in-Some.reason
    (subst (λ (past : TokenPast). FindsUndecided c.args.model.now decisions (tokens_now past) c.args.token.now (Some c.in-Some.reason)) c.tokens.ensures
    (c.in-Some.ensures c.args.model.now decisions (snapshot_of c.args.store.now) (λ i. tokens_now (sym c.tokens.ensures i)) told))
