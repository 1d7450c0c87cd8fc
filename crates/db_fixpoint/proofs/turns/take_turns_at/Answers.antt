use Rattle.std.proofs.Common.{length, ap, arith}
use Rattle.token_store.specs.Tokens.{TokenPast, tokens_now}
use Rattle.db_fixpoint.proofs.Claimed.{ok_then}
use Rattle.db_fixpoint.proofs.Sharing.{turns_past, turns_one}
use Rattle.db_fixpoint.proofs.turns.take_turns_at.Goals as goal

pub returns-then-other-count-clause-turns : goal.returns-then-other-count-clause-turns
returns-then-other-count-clause-turns c =
    turns_past c.args.model.now c.args.store.now c.args.one c.args.other
    (omega (arith, c.if-other-count.true, c.count.ensures, ap (λ (past : TokenPast). length (tokens_now past)) c.tokens.ensures))

pub take_turns-requires-clause-one : goal.take_turns-requires-clause-one
take_turns-requires-clause-one c = c.requires.times c.args.one c.requires.one

pub take_turns-requires-clause-other : goal.take_turns-requires-clause-other
take_turns-requires-clause-other c =
    c.requires.times c.args.other
    (omega (arith, c.if-other-count.false, c.count.ensures, ap (λ (past : TokenPast). length (tokens_now past)) c.tokens.ensures))

pub returns-clause-turns : goal.returns-clause-turns
returns-clause-turns c =
    ok_then c.take_turns.result (turns_one c.args.model.now c.args.store.now c.args.one c.args.other c.take_turns.new.store
    (omega (arith, c.if-other-count.false, c.count.ensures, ap (λ (past : TokenPast). length (tokens_now past)) c.tokens.ensures))) c.take_turns.ensures.turns
