use Rattle.std.proofs.Common.{slice_get, ap, ◌∙◌}
use Rattle.std.proofs.lemmas.Result.{on_ok_weaker}
use Rattle.token_store.specs.Tokens.{TokenPast, tokens_now, token_preds}
use Rattle.db_decide.proofs.Opened.{rules_there, rule_below}
use Rattle.db_decide.proofs.activate.open_all_rules.Goals as goal

pub open_rules-requires-clause-there : goal.open_rules-requires-clause-there
open_rules-requires-clause-there c =
    let at = c.in-Some.ensures ∙ ap (λ (past : TokenPast). slice_get (token_preds (tokens_now past)) c.args.token) c.tokens.ensures in
    rules_there c.args.model.now c.args.store.now c.requires.content c.requires.preds c.args.token c.in-Some.pred c.rule_count.result c.requires.token at c.rule_count.ensures

pub returns-clause-open : goal.returns-clause-open
returns-clause-open c =
    let at = c.in-Some.ensures ∙ ap (λ (past : TokenPast). slice_get (token_preds (tokens_now past)) c.args.token) c.tokens.ensures in
    on_ok_weaker c.open_rules.result
    (λ opens rule entries is. opens rule
    (rule_below c.args.model.now c.args.store.now c.requires.content c.requires.preds c.args.token c.in-Some.pred c.rule_count.result c.requires.token at c.rule_count.ensures rule entries is))
    c.open_rules.ensures.open
