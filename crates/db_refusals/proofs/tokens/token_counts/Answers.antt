use Rattle.std.proofs.Common.{sym, subst, refl}
use Rattle.token_store.specs.Tokens.{TokenList}
use Rattle.db_refusals.specs.Judging.{IsKeptAs}
use Rattle.db_refusals.proofs.Told.{counts_when, counts_nowhere}
use Rattle.db_refusals.proofs.tokens.token_counts.Goals as goal

pub returns-in-Some : goal.returns-in-Some
returns-in-Some c = λ decisions snapshot same told.
    counts_when c.args.model.now decisions snapshot told c.args.token.now c.in-Some.state
    (subst (λ (tokens : TokenList). IsKeptAs tokens c.args.token.now c.in-Some.state) (sym same) c.in-Some.ensures)
    (c.if-not-is_rejectable.ensures.0 refl) _ c.is_taken.ensures

pub returns-in-None : goal.returns-in-None
returns-in-None c = λ decisions snapshot same told.
    counts_nowhere c.args.model.now decisions snapshot told c.args.token.now (c.if-not-is_rejectable.ensures.0 refl) same c.in-None.ensures
