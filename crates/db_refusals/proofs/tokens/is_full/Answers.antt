use Rattle.std.proofs.Common.{sym, subst, arith}
use Rattle.std.specs.Prelude.{AllPairs, ◌≢◌}
use Rattle.token_store.specs.Tokens.{TokenList, tokens_now, token_names}
use Rattle.db_refusals.proofs.Full.{full_told, few_told}
use Rattle.db_refusals.proofs.tokens.is_full.Goals as goal

pub returns : goal.returns
returns c = λ model decisions snapshot same told.
    full_told model decisions snapshot told (subst (λ (tokens : TokenList). AllPairs (λ one other. one ≢ other) (token_names tokens)) (sym same) c.requires)
    (tokens_now c.args.tokens.now) same c.count_active.result c.count_active.ensures

pub returns-then-count-lt-MOST_ACTIVE : goal.returns-then-count-lt-MOST_ACTIVE
returns-then-count-lt-MOST_ACTIVE c = λ model decisions snapshot same told.
    few_told model decisions snapshot told (subst (λ (tokens : TokenList). AllPairs (λ one other. one ≢ other) (token_names tokens)) (sym same) c.requires)
    (tokens_now c.args.tokens.now) same (omega (arith, c.count.ensures, c.if-count-lt-MOST_ACTIVE.true))
